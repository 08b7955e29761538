-- One more reply is spelled.
use Rattle.std.proofs.Common.{◌≡◌, ℕ, ◌+◌, ◌<◌, List, [], ◌∷◌, ◌++◌, length, map, take, get_or, ap, sym, ◌∙◌, subst}
use Rattle.std.proofs.Common.{append-nil}
use Rattle.std.specs.Prelude.{flat_map}
use Rattle.std.specs.List.{AllZip}
use Rattle.std.proofs.lemmas.List.{map-append, take_more}
use Rattle.std.proofs.lemmas.List.Concat.{flat_map-append}
use Rattle.serde_json.specs.Data.{Data}
use Rattle.serde_json.specs.View.{view}
use Rattle.serde_json.specs.declared.value.Value.{Value}
use Rattle.pc_wire.specs.Frames.{frame}
use Rattle.pc_session.specs.Spelled.{AreSpelled, IsSpelled}

-- one more text for one more value
zip_more : (replies : List Data) (texts : List (List ℕ)) (reply : Data) (text : List ℕ) → AllZip IsSpelled replies texts
    → IsSpelled reply text → AllZip IsSpelled (replies ++ reply ∷ []) (texts ++ text ∷ [])
zip_more [] [] reply text all one = (one, tt)
zip_more [] (other ∷ others) reply text all one = absurd all
zip_more (other ∷ others) [] reply text all one = absurd all
zip_more (first ∷ replies) (front ∷ texts) reply text all one = (all.0, zip_more replies texts reply text all.1 one)

spelled_more : (replies : List Data) (bytes : List ℕ) (reply : Data) (text : List ℕ) → AreSpelled replies bytes
    → IsSpelled reply text → AreSpelled (replies ++ reply ∷ []) (bytes ++ frame text)
spelled_more replies bytes reply text spelled one = record {
  texts = spelled.texts ++ text ∷ [];
  each = zip_more replies spelled.texts reply text spelled.each one;
  framed = ap (λ l. l ++ frame text) spelled.framed
      ∙ (ap (λ l. flat_map frame spelled.texts ++ l) (sym (append-nil (frame text)))
      ∙ sym (flat_map-append frame spelled.texts (text ∷ [])));
}

pub spelled_next : (values : List Value) (i : ℕ) (value : Value) (bytes text more : List ℕ) → i < length values
    → value ≡ get_or values i value → AreSpelled (map view (take i values)) bytes → IsSpelled (view value) text
    → more ≡ bytes ++ frame text → AreSpelled (map view (take (i + 1) values)) more
spelled_next values i value bytes text more within read spelled one so =
    let grown : take (i + 1) values ≡ take i values ++ value ∷ [] =
    take_more values i value within ∙ ap (λ x. take i values ++ x ∷ []) (sym read) in
    let viewed : map view (take (i + 1) values) ≡ map view (take i values) ++ view value ∷ [] =
    ap (map view) grown ∙ map-append view (take i values) (value ∷ []) in
    let Spell : List Data → Type 0 = λ ds. AreSpelled ds more in
    let Spelled : List ℕ → Type 0 = λ b. AreSpelled (map view (take i values) ++ view value ∷ []) b in
    subst Spell (sym viewed) (subst Spelled (sym so) (spelled_more _ bytes (view value) text spelled one))
