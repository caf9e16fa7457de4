use Rattle.data_tree.specs.RequestData.{root_of}
use Rattle.stub_response.proofs.AlikeLemmas.{lines_everywhere}
use Rattle.stub_response.proofs.prepared.headers_of_all.Goals as goal

pub returns : goal.returns
returns c = λ request template. (
  c.in_ok-made.made.items,
  lines_everywhere c.needed_by_headers.result (root_of c.within_limit-no_data.result) c.args.headers.now
      c.in_ok-made.made.items (c.is_empty.ensures.0 c.if-not-is_empty.false) c.needed_by_headers.ensures
      c.in_ok-made.ensures request template,
  c.in_ok-header_map.ensures,
)
