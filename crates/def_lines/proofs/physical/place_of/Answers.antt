use Rattle.std.proofs.Common.{◌==◌, ◌∙◌, arith}
use Rattle.def_lines.proofs.ByteSearch.{line_byte_search_is_first, line_byte_search_is_within}
use Rattle.def_lines.proofs.physical.place_of.Goals as goal

pub returns : goal.returns
returns c = record {
  is = c.unwrap_or.ensures ∙ line_byte_search_is_first (λ b. b == c.args.byte) c.args.text.now c.memchr.result
      c.memchr.ensures;
  within =
      omega (
        arith,
        c.unwrap_or.ensures,
        line_byte_search_is_within (λ b. b == c.args.byte) c.args.text.now c.memchr.result c.memchr.ensures,
      );
}
