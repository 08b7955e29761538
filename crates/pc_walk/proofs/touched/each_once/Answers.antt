use Rattle.std.proofs.Common.{◌∙◌, ℕ, List, sym, ap, eqb}
use Rattle.std.specs.Prelude.{nat_eq}
use Rattle.std.proofs.lemmas.List.Filters.{dedup_is}
use Rattle.std.proofs.lemmas.List.Sorted.{list_any-IsPermutation}
use Rattle.pc_flow.specs.Agreement.{is_among}
use Rattle.pc_flow.proofs.Among.{among_dedup}
use Rattle.pc_walk.proofs.touched.each_once.Goals as goal

pub returns : goal.returns
returns c = λ x.
    ap (λ (xs : List ℕ). is_among xs x) (dedup_is eqb c.sort_unstable.new.self.items c.dedup.new.self.items
    c.dedup.ensures.filtered)
    ∙ among_dedup x c.sort_unstable.new.self.items
    ∙ sym (list_any-IsPermutation (nat_eq x) c.args.locals.now.items c.sort_unstable.new.self.items
    c.sort_unstable.ensures.permutation)
