use Rattle.std.proofs.Common.{rules, ◌≡◌, Some, arith, slice_get, true}
use Rattle.pc_types.specs.Below.{base_of}
use Rattle.pc_types.specs.Join.{reaches}
use Rattle.pc_types.proofs.Ancestors.{reaches_base}
use Rattle.pc_types.proofs.Leaps.{goes_on_from}
use Rattle.pc_types.proofs.parents.Parents.next_up.Goals as goal

pub returns-then-leap-class : goal.returns-then-leap-class
returns-then-leap-class c =
    let e : slice_get c.self.inside.rungs.items c.args.class ≡ Some c.rung_at-leap.result = search rules in
    let h : reaches c.args.self.now c.args.class c.args.class c.rung_at-leap.result.leap ≡ true
    = rw (← c.self.view_is) (c.self.invariant.1 c.args.class c.rung_at-leap.result e) in
    record {
      above = (
        c.if-leap-class.true,
        goes_on_from c.args.self.now c.in_ok-base.ensures.ordered c.args.class
            c.rung_at-leap.result.leap c.args.ancestor c.if-ancestor-leap.true h,
      );
    }

pub returns-else-ancestor-leap : goal.returns-else-ancestor-leap
returns-else-ancestor-leap c =
    let e : base_of c.args.self.now c.args.class ≡ Some c.in_ok-base.base = search rules in
    record {
      above = (
        c.in_ok-base.ensures.ordered c.args.class c.in_ok-base.base e,
        reaches_base c.args.self.now
            c.in_ok-base.ensures.ordered c.args.ancestor c.args.class c.in_ok-base.base e
            (λ q. omega (arith, q, c.requires)),
      );
    }

pub returns-else-class-len : goal.returns-else-class-len
returns-else-class-len c =
    let e : base_of c.args.self.now c.args.class ≡ Some c.in_ok-base.base = search rules in
    record {
      above = (
        c.in_ok-base.ensures.ordered c.args.class c.in_ok-base.base e,
        reaches_base c.args.self.now
            c.in_ok-base.ensures.ordered c.args.ancestor c.args.class c.in_ok-base.base e
            (λ q. omega (arith, q, c.requires)),
      );
    }
