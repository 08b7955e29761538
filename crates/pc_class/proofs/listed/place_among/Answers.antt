use Rattle.std.proofs.Common.{◌∙◌, sym, ap}
use Rattle.std.specs.Prelude.{bytes_eq}
use Rattle.pc_class.specs.declared.table.Parameter.{Parameter as RustParameter}
use Rattle.pc_class.specs.Listed.{parameter_name}
use Rattle.pc_class.proofs.Listings.{place_here, place_later}
use Rattle.pc_class.proofs.listed.place_among.Goals as goal

pub returns-then-eq : goal.returns-then-eq
returns-then-eq g c = sym (place_here c.args.params.now c.loop-i.i c.index-params-i.result c.args.name.now
    c.loop-i-test.true c.index-params-i.is c.loop-i.invariant
    (ap (λ (p : RustParameter _). bytes_eq c.args.name.now (parameter_name p)) c.index-params-i.is
    ∙ ap (bytes_eq c.args.name.now) (sym c.as_str.ensures.value) ∙ sym c.eq.ensures ∙ c.if-eq.true))

pub loop-i-preserved : goal.loop-i-preserved
loop-i-preserved g c = place_later c.args.params.now c.loop-i.i c.index-params-i.result c.args.name.now
    c.loop-i-test.true c.index-params-i.is c.loop-i.invariant
    (ap (λ (p : RustParameter _). bytes_eq c.args.name.now (parameter_name p)) c.index-params-i.is
    ∙ ap (bytes_eq c.args.name.now) (sym c.as_str.ensures.value) ∙ sym c.eq.ensures ∙ c.if-eq.false)
