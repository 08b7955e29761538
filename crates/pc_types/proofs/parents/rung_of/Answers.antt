use Rattle.std.proofs.Common.{rules, ◌≡◌, Some, arith}
use Rattle.pc_types.specs.Below.{base_of}
use Rattle.pc_types.proofs.Leaps.{leap_down, leap_of_base, leap_of_leap}
use Rattle.pc_types.proofs.parents.rung_of.Goals as goal

pub rung_at-second-requires : goal.rung_at-second-requires
rung_at-second-requires c =
    let e : base_of c.args.bases.now c.args.class ≡ Some c.in-Some.base = search rules in
    let l = c.requires.bases c.args.class c.in-Some.base e in
    let k = leap_down c.args.bases.now c.requires.bases c.in-Some.base c.rung_at-first.result.leap
    (c.requires.rungs c.in-Some.base c.rung_at-first.result c.rung_at-first.ensures) in
    omega (arith, l, k, c.requires.before)

pub rung_at-third-requires : goal.rung_at-third-requires
rung_at-third-requires c =
    let e : base_of c.args.bases.now c.args.class ≡ Some c.in-Some.base = search rules in
    let l = c.requires.bases c.args.class c.in-Some.base e in
    let k = leap_down c.args.bases.now c.requires.bases c.in-Some.base c.rung_at-first.result.leap
    (c.requires.rungs c.in-Some.base c.rung_at-first.result c.rung_at-first.ensures) in
    let j = leap_down c.args.bases.now c.requires.bases c.rung_at-first.result.leap c.rung_at-second.result.leap
    (c.requires.rungs c.rung_at-first.result.leap c.rung_at-second.result c.rung_at-second.ensures) in
    omega (arith, l, k, j, c.requires.before)

pub returns-then-is_even : goal.returns-then-is_even
returns-then-is_even c =
    let e : base_of c.args.bases.now c.args.class ≡ Some c.in-Some.base = search rules in
    leap_of_base c.args.bases.now c.requires.bases c.args.class c.in-Some.base c.rung_at-second.result.leap e
    (leap_of_leap c.args.bases.now c.requires.bases c.in-Some.base c.rung_at-first.result.leap
    c.rung_at-second.result.leap
    (c.requires.rungs c.in-Some.base c.rung_at-first.result c.rung_at-first.ensures)
    (c.requires.rungs c.rung_at-first.result.leap c.rung_at-second.result c.rung_at-second.ensures))
