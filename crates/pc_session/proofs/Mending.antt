-- Bytes whose escapes are mended, and what they spoil.
use Rattle.std.specs.Prelude.{IsUtf8}
use Rattle.std.proofs.Common.{◌≡◌, ℕ, ◌+◌, ◌<◌, ◌≤◌, List, [], ◌∷◌, ◌++◌, length, drop, get_or, Option, None, Some}
use Rattle.std.proofs.Common.{refl, ap, sym, ◌∙◌, append_assoc, arith}
use Rattle.std.proofs.lemmas.List.{drop_more, drop_all}
use Rattle.serde_json.specs.Data.{Data}
use Rattle.serde_json.specs.Read.{read}
use Rattle.pc_documents.specs.Documents.{OpenDocument}
use Rattle.pc_session.specs.declared.spoiled.Escape.{Escape}
use Rattle.pc_session.specs.Spoiled.{escape_after, mended_byte, mended_from, mended, spoiled_in, IsMended, Spoils}
use Rattle.pc_session.specs.States.{State}

-- one more byte
pub mends_more : (place : Escape) (bytes : List ℕ) (i byte : ℕ) (done : List ℕ) → i < length bytes
    → byte ≡ get_or bytes i byte
    → done ++ mended_from place (drop i bytes)
    ≡ (done ++ mended_byte place byte ∷ []) ++ mended_from (escape_after place byte) (drop (i + 1) bytes)
mends_more place bytes i byte done within read =
    ap (λ l. done ++ mended_from place l) (drop_more bytes i byte within)
    ∙ (ap (λ b. done ++ mended_from place (b ∷ drop (i + 1) bytes)) (sym read)
    ∙ sym (append_assoc done (mended_byte place byte ∷ []) (mended_from (escape_after place byte) (drop (i + 1) bytes))))

-- no byte is left
pub mends_end : (place : Escape) (bytes : List ℕ) (i : ℕ) → length bytes ≤ i → mended_from place (drop i bytes) ≡ []
mends_end place bytes i past = ap (mended_from place) (drop_all i bytes past)

some_inj : {A : Type 0} {x y : A} → Some x ≡ Some y → x ≡ y
some_inj e = grind arith

spoils_by : (bytes : List ℕ) (old : State) (message : Data) (document : Option OpenDocument) → IsMended bytes message
    → spoiled_in message old ≡ document → Spoils bytes old document
spoils_by bytes old message None is none = λ other is_too.
    let same : message ≡ other = some_inj (sym is.1 ∙ is_too.1) in
    ap (λ m. spoiled_in m old) (sym same) ∙ none
spoils_by bytes old message (Some document) is some = (message, is, some)

-- bytes that are a message once mended spoil the document that the message spoils, if it spoils one alone
pub spoils : (bytes : List ℕ) (old : State) (message : Data) → IsMended bytes message
    → Spoils bytes old (spoiled_in message old)
spoils bytes old message is = spoils_by bytes old message (spoiled_in message old) is refl

none_some : {A : Type 0} {x : A} → None ≡ Some x → ⊥
none_some e = grind arith

-- the mended bytes are no message
pub spoils_none : (bytes : List ℕ) (old : State) → (IsUtf8 (mended bytes) → read (mended bytes) ≡ None)
    → Spoils bytes old None
spoils_none bytes old none = λ message is. absurd (none_some (sym (none is.0) ∙ is.1))
