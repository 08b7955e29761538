-- Items of an array, and the text that they give.
use Rattle.std.specs.Prelude.{Option, None, Some, codes, option_map, option_and_then, slice_get}
use Rattle.std.proofs.Common.{◌≡◌, ℕ, ◌+◌, ◌-◌, ◌<◌, ◌≤◌, suc, false, ◌||◌, List, [], ◌∷◌, length, map, drop, get_or}
use Rattle.std.proofs.Common.{refl, ap, sym, ◌∙◌, arith}
use Rattle.std.proofs.lemmas.List.{drop_more, drop_all}
use Rattle.serde_json.specs.declared.value.Value.{Value}
use Rattle.serde_json.specs.View.{view, items_view}
use Rattle.pc_documents.specs.declared.documents.Document.{Document}
use Rattle.pc_documents.specs.Documents.{opened_of}
use Rattle.pc_session.specs.Messages.{last_item, is_text, has_text, whole_text, text_after}
use Rattle.pc_session.specs.Replies.{log_data}
use Rattle.pc_session.specs.Sessions.{told_of}

-- the last item of an array
pub last_is : (vs : List Value) → last_item (items_view vs) ≡ option_map view (slice_get vs (length vs - 1))
last_is [] = refl
last_is (v ∷ []) = refl
last_is (v ∷ w ∷ vs) =
    let further : suc (suc (length vs)) - 1 ≡ suc (length vs) = omega arith in
    let near : suc (length vs) - 1 ≡ length vs = omega arith in
    rw further (rw near at (last_is (w ∷ vs)))

-- the text after changes, by the last of them
abbrev after_last : Option (List ℕ) → Option Value → Option (List ℕ)
after_last before None = before
after_last before (Some change) = whole_text (view change)

-- there is a last item where there is one
last_some : (v : Value) (vs : List Value) → (w : Value) × (slice_get (v ∷ vs) (length (v ∷ vs) - 1) ≡ Some w)
last_some v [] = (v, refl)
last_some v (w ∷ vs) =
    let further : suc (suc (length vs)) - 1 ≡ suc (length vs) = omega arith in
    let near : suc (length vs) - 1 ≡ length vs = omega arith in
    rw further (rw near at (last_some w vs))

mapped : (before : Option (List ℕ)) (last : Option Value) → ((w : Value) × (last ≡ Some w))
    → option_and_then whole_text (option_map view last) ≡ after_last before last
mapped before None some = absurd (grind arith)
mapped before (Some change) some = refl

pub text_after_is : (before : Option (List ℕ)) (vs : List Value)
    → text_after before (items_view vs) ≡ after_last before (slice_get vs (length vs - 1))
text_after_is before [] = refl
text_after_is before (v ∷ vs) = ap (option_and_then whole_text) (last_is (v ∷ vs))
    ∙ mapped before (slice_get (v ∷ vs) (length (v ∷ vs) - 1)) (last_some v vs)

-- a text is among the items from a place on if it is the item there or among the items after it
pub has_text_drop : (text : List ℕ) (vs : List Value) (i : ℕ) (v : Value) → i < length vs → v ≡ get_or vs i v
    → has_text text (items_view (drop i vs)) ≡ (is_text text (view v) || has_text text (items_view (drop (i + 1) vs)))
has_text_drop text vs i v within read =
    ap (λ l. has_text text (items_view l)) (drop_more vs i v within)
    ∙ ap (λ x. is_text text (view x) || has_text text (items_view (drop (i + 1) vs))) (sym read)

-- there are no items from the end on
pub has_text_end : (text : List ℕ) (vs : List Value) (i : ℕ) → length vs ≤ i
    → has_text text (items_view (drop i vs)) ≡ false
has_text_end text vs i past = ap (λ l. has_text text (items_view l)) (drop_all i vs past)

-- the log is told something where a document is open, and nothing where none is
pub told_some : (documents : List Document) → 0 < length documents → told_of (map opened_of documents)
    ≡ log_data (codes "a message was not read: the texts of the open documents are not known until they change") ∷ []
told_some [] some = absurd (omega arith)
told_some (other ∷ others) some = refl

pub told_none : (documents : List Document) → length documents ≡ 0 → told_of (map opened_of documents) ≡ []
told_none [] none = refl
told_none (other ∷ others) none = absurd (omega arith)
