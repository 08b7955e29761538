use Rattle.std.proofs.Common.{Bor, Option, Some, None, ap, refl}
use Rattle.std.specs.Prelude.{IfSome, unwrap_or}
use Rattle.pc_types.specs.Tree.{Any}
use Rattle.pc_types.specs.declared.boxed.BoxType.{BoxType}
use Rattle.pc_notes.specs.Notes.{IsGivenPair}
use Rattle.pc_detail_facts.specs.Held.{AreGivenLent}
use Rattle.pc_detail_facts.proofs.known.Known.of.Goals as goal

given_lent : (o : Option (Bor BoxType × Bor BoxType)) → IfSome o IsGivenPair → IfSome o AreGivenLent
given_lent None h = tt
given_lent (Some t) h = record { from = h.0; into = h.1 }

pub returns-clause-told : goal.returns-clause-told
returns-clause-told c = record {
  types = λ p. ap (λ o. unwrap_or o Any) (c.in_ok-types.ensures.types p);
  wrong = c.in_ok-wrong.ensures.types;
  dynamic = c.in_ok-dynamic.ensures.types;
}

pub returns-clause-held : goal.returns-clause-held
returns-clause-held c = record {
  any = refl;
  types = c.in_ok-types.ensures.given;
  wrong = λ p. given_lent _ (c.in_ok-wrong.ensures.given p);
  dynamic = λ p. given_lent _ (c.in_ok-dynamic.ensures.given p);
}
