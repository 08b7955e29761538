use Rattle.std.proofs.Common.{◌≡◌, ◌++◌, ◌∙◌, ap, map, subst, append-nil, List, ℕ}
use Rattle.std.specs.Prelude.{OnOk}
use Rattle.pc_source.specs.declared.place.Place.{Place}
use Rattle.pc_tree.specs.declared.code.Code.TheVariants.{E01}
use Rattle.pc_tree.specs.Lists.{name_seen}
use Rattle.pc_tree.specs.Stopping.{is_among, self_before}
use Rattle.pc_tree.specs.Code.{at_code}
use Rattle.pc_tree.specs.Names.{text_seen, texts_in}
use Rattle.pc_stopping.proofs.Passed.{same_again}
use Rattle.pc_stopping.proofs.twice.find_named_again.Goals as goal

pub returns : goal.returns
returns c =
    let none = ap (map text_seen) c.with_hasher-before.ensures.empty in
    let before = λ (t : List ℕ). c.in_ok-put_self.ensures t ∙ ap (λ ts. is_among (self_before c.args.is_method ++ ts) t)
    none ∙ ap (λ ts. is_among ts t) (append-nil (self_before c.args.is_method)) in
    subst (λ (ps : List Place). OnOk c.find_bound_again.result (c.find_bound_again.new.found.items
    ≡ c.args.found.now.items ++ at_code E01 ps))
    (same_again (texts_in c.put_self.new.before) (self_before c.args.is_method) before
    (map name_seen c.args.names.now))
    c.find_bound_again.ensures
