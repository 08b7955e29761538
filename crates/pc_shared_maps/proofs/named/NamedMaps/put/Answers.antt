use Rattle.std.proofs.Common.{◌∙◌, sym, ap, subst}
use Rattle.std.specs.Prelude.{Some, if◌then◌else◌, bytes_eq}
use Rattle.pc_scope.specs.Internal.WalkViews.{texts_in}
use Rattle.pc_shared_maps.specs.NameMaps.{NameMaps, IsMap, named_at, KeepsNamed}
use Rattle.pc_shared_maps.proofs.Naming.{put_named, kept_named, numbered_more}
use Rattle.pc_shared_maps.proofs.named.NamedMaps.put.Goals as goal

pub invariant_of-self-in_err-new : goal.invariant_of-self-in_err-new
invariant_of-self-in_err-new c =
    let old : NameMaps = record { texts = texts_in c.self.inside.texts; nodes = c.self.inside.maps } in
    let new : NameMaps = record { texts = texts_in c.number.new.texts; nodes = c.put.new.self } in
    numbered_more old new c.args.name.now c.in_ok-number.number c.self.invariant c.in_ok-number.ensures.texts
    c.in_ok-number.ensures.number c.in_err-new.ensures.below

pub invariant_of-self-2 : goal.invariant_of-self-2
invariant_of-self-2 c =
    let old : NameMaps = record { texts = texts_in c.self.inside.texts; nodes = c.self.inside.maps } in
    let new : NameMaps = record { texts = texts_in c.number.new.texts; nodes = c.put.new.self } in
    numbered_more old new c.args.name.now c.in_ok-number.number c.self.invariant c.in_ok-number.ensures.texts
    c.in_ok-number.ensures.number c.in_ok-new.ensures.below

pub returns-clause-value : goal.returns-clause-value
returns-clause-value c t =
    let old : NameMaps = record { texts = texts_in c.self.inside.texts; nodes = c.self.inside.maps } in
    let new : NameMaps = record { texts = texts_in c.number.new.texts; nodes = c.put.new.self } in
    put_named old new c.args.name.now c.in_ok-number.number c.args.map c.args.value c.in_ok-new.new c.self.invariant
    c.in_ok-number.ensures.texts c.in_ok-number.ensures.number
    (subst (λ d. IsMap d c.args.map) (sym c.self.view_is) c.requires) c.in_ok-new.ensures.value t
    ∙ ap (λ (d : NameMaps). if bytes_eq t c.args.name.now then Some c.args.value else named_at d c.args.map t)
    c.self.view_is

pub returns-clause-kept : goal.returns-clause-kept
returns-clause-kept c =
    let old : NameMaps = record { texts = texts_in c.self.inside.texts; nodes = c.self.inside.maps } in
    let new : NameMaps = record { texts = texts_in c.number.new.texts; nodes = c.put.new.self } in
    subst (λ d. KeepsNamed d new) c.self.view_is
    (kept_named old new c.args.name.now c.in_ok-number.number c.self.invariant c.in_ok-number.ensures.texts
    c.in_ok-number.ensures.number c.in_ok-new.ensures.kept)
