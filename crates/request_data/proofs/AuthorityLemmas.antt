-- The port of an authority as a number of the data.
use Rattle.std.proofs.Common.{ℕ, List, pos, arith}
use Rattle.std.proofs.lemmas.Int.{ints}
use Rattle.data_tree.specs.Tree.{number}
use Rattle.data_tree.specs.WellFormed.{IsWellFormed}
use Rattle.mock_request.specs.Authority.{port_of}
use Rattle.mock_request.proofs.AuthorityLemmas.{port_at_most}

pub port_well_formed : (text : List ℕ) → IsWellFormed (number (pos (port_of text)))
port_well_formed text =
    let most = port_at_most text in (omega (arith, ints, most), omega (arith, ints, most))
