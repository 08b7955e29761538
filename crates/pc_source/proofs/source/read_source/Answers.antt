use Rattle.std.proofs.Common.{◌≡◌, string_bytes, arith, rules}
use Rattle.pc_source.proofs.source.read_source.Goals as goal

pub invariant_of-result : goal.invariant_of-result
invariant_of-result c =
    let e : string_bytes c.in_ok-from_str.field-0 ≡ c.args.bytes.now = search rules in
    rw e (record {
      short = omega arith;
      unmarked = search rules;
      utf8 = search rules;
      no_control =
          c.in_default.ensures.first.0;
      no_coding = c.in_default.ensures.first.1;
    })
