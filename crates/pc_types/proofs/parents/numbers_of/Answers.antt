use Rattle.std.proofs.Common.{◌≡◌, ◌∷◌, [], length, length-append, ap, sym, subst, arith}
use Rattle.pc_types.specs.Internal.Numbered.{AreNumbers, base_number}
use Rattle.pc_types.proofs.Appended.{each_more}
use Rattle.pc_types.proofs.parents.numbers_of.Goals as goal

pub loop-class-preserved : goal.loop-class-preserved
loop-class-preserved c =
    let numbers = c.loop-class.numbers.items in
    let told : c.base_number.result ≡ base_number c.args.bases.now (length numbers) = rw c.loop-class.invariant.count
    c.base_number.ensures in
    record {
      count = omega (
        arith,
        ap length c.in_ok-push.ensures.items,
        length-append numbers (c.base_number.result ∷ []),
        c.loop-class.invariant.count,
      );
      numbers = subst (AreNumbers c.args.bases.now) (sym c.in_ok-push.ensures.items)
          (each_more (λ i n. n ≡ base_number c.args.bases.now i) numbers c.base_number.result
          c.loop-class.invariant.numbers told);
    }
