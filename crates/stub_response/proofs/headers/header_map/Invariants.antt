use Rattle.std.proofs.Common.{◌≡◌, fold, length}
use Rattle.std.specs.Vec.Iter.{into_iter_items, into_iter_len}
use Rattle.stub_response.specs.Headers.{headers_of, with_header}
use Rattle.stub_response.proofs.headers.header_map.Given as goal

abbrev pub invariant-loop-header : goal.invariant-loop-header
invariant-loop-header l = record {
  counted : into_iter_len l.header-iterator ≡ length (into_iter_items l.header-iterator);
  whole : fold with_header l.made (into_iter_items l.header-iterator) ≡ headers_of l.fn.headers.items;
}
