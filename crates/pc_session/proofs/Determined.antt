-- The replies to messages are determined, over a checker whose answers about a text do not contradict each other.
use Rattle.std.specs.Prelude.{◌⊎◌, codes, option_and_then, is_some}
use Rattle.std.proofs.Common.{◌≡◌, ℕ, ◌<◌, ◌≤◌, length, Bool, true, false, List, [], ◌∷◌, ◌++◌, Option, None, Some, sym}
use Rattle.std.proofs.Common.{ap, ap₂, refl, ◌∙◌, subst, inl, inr, ⊎_elim, true≢false, arith}
use Rattle.std.proofs.lemmas.Bool.{cases_order}
use Rattle.serde_json.specs.Data.{Data, null, array, no_items}
use Rattle.serde_json.specs.Find.{get}
use Rattle.pc_position.specs.declared.positions.Encoding.{Encoding}
use Rattle.pc_position.specs.declared.positions.Position.{Position}
use Rattle.pc_position.specs.Positions.{IsLastByte, IsByteAt}
use Rattle.pc_wire.specs.Frames.{message_limit}
use Rattle.pc_documents.specs.CheckerAnswers.{CheckerAnswer, outcome, type_shown}
use Rattle.pc_documents.specs.Agreed.{Agreed}
use Rattle.pc_documents.specs.Checked.{IsChecked, IsCheckedAs, is_sent}
use Rattle.pc_documents.specs.Documents.{document_at, is_open, without_document, OpenDocument}
use Rattle.pc_documents.specs.Hovers.{IsShownAtByte, IsShownAt, IsToldOf, IsToldAs, hover_text}
use Rattle.pc_documents.specs.Definitions.{AreDefinitionsAs}
use Rattle.pc_documents.specs.Symbols.{AreSymbolsAs}
use Rattle.pc_documents.proofs.Declaring.{one_declaration}
use Rattle.pc_documents.proofs.Defining.{same_definitions}
use Rattle.pc_documents.proofs.Listing.{same_symbols}
use Rattle.pc_documents.proofs.Saying.{same_diagnostics, same_hovers}
use Rattle.pc_session.specs.declared.messages.LspMethod.{LspMethod}
use Rattle.pc_session.specs.declared.messages.LspMethod.TheVariants.{Initialize, Shutdown, Exit, DidOpen, DidChange}
use Rattle.pc_session.specs.declared.messages.LspMethod.TheVariants.{DidClose, Hover, Diagnostic, CodeAction}
use Rattle.pc_session.specs.declared.messages.LspMethod.TheVariants.{DocumentSymbol, Definition}
use Rattle.pc_session.specs.declared.replies.ErrorCode.TheVariants.{ParseError, InvalidRequest, MethodNotFound}
use Rattle.pc_session.specs.declared.replies.ErrorCode.TheVariants.{ServerNotInitialized, TooLong}
use Rattle.pc_session.specs.declared.session.Stage.{Stage}
use Rattle.pc_session.specs.declared.session.Stage.TheVariants.{Fresh, Running, ShutDown, Ended}
use Rattle.pc_session.specs.Exchanges.{IsDetermined, Arrival, Exchange, Exchanges, RepliesAreDetermined}
use Rattle.pc_session.specs.Messages.{agreed_in, uri_in, version_in, is_older}
use Rattle.pc_session.specs.Publications.{IsSentWhere}
use Rattle.pc_session.specs.Replies.{publish_data, log_data, result_data, full_data, hover_data, capabilities_data}
use Rattle.pc_session.specs.Replies.{refusal_of, symbols_data, definitions_data}
use Rattle.pc_session.specs.Sessions.{IsTurn, IsKept, IsOpened, IsChanged, IsOutdated, IsNotOpen, IsUnnamed, IsClosed}
use Rattle.pc_session.specs.Sessions.{IsPulled, IsHovered, IsSymbolReply, RepliesWith, OnOpen, OnChange, OnClose, OnNoMethod}
use Rattle.pc_session.specs.Sessions.{IsLocated}
use Rattle.pc_session.specs.Sessions.{OnFresh, OnRunning, OnRequest, OnNotice, OnStage, OnNotification, OnMethod, OnMessage}
use Rattle.pc_session.specs.Sessions.{OnSpoiled, Step, named_document, opened_in, changed_in, at_stage, with_documents}
use Rattle.pc_session.specs.Sessions.{cleared, exit_status, forgot, unknown_all, told_of, identifier_or_null}
use Rattle.pc_session.specs.Shown.{lost_data}
use Rattle.pc_session.specs.Spoiled.{Spoils, spoiled_in}
use Rattle.pc_session.specs.States.{State, fresh}

some_inj : {A : Type 0} {x y : A} → Some x ≡ Some y → x ≡ y
some_inj e = grind arith

some_none : {A : Type 0} {x : A} → Some x ≡ None → ⊥
some_none e = grind arith

-- the relation holds of one list of replies and one session at most
abbrev Once : (List Data → State → Type 0) → Type 0
Once P = (replies others : List Data) (new other : State) → P replies new → P others other
    → (replies ≡ others) × (new ≡ other)

once_turn : (wanted : List Data) (next : State) → Once (IsTurn wanted next)
once_turn wanted next replies others new other a b =
    (a.replies_are ∙ sym b.replies_are, a.new_is ∙ sym b.new_is)

once_either : (P Q : List Data → State → Type 0) → Once P → Once Q
    → ((r s : List Data) (n m : State) → P r n → Q s m → ⊥) → Once (λ r n. P r n ⊎ Q r n)
once_either P Q p q apart r s n m (inl a) (inl b) = p r s n m a b
once_either P Q p q apart r s n m (inl a) (inr b) = absurd (apart r s n m a b)
once_either P Q p q apart r s n m (inr a) (inl b) = absurd (apart s r m n b a)
once_either P Q p q apart r s n m (inr a) (inr b) = q r s n m a b

once_with : (IsReply : Data → Type 0) (old : State) → ((a b : Data) → IsReply a → IsReply b → a ≡ b)
    → Once (RepliesWith IsReply old)
once_with IsReply old one r s n m a b = (
  a.answered.replies_are
      ∙ (ap (λ x. x ∷ []) (one a.reply b.reply a.is_reply b.is_reply) ∙ sym b.answered.replies_are),
  a.answered.new_is ∙ sym b.answered.new_is,
)

-- ---- documents that a message names

-- a message that names no document names no open one
no_document : (message : Data) (old : State) (document : OpenDocument) → named_document message old ≡ Some document
    → uri_in message ≡ None → ⊥
no_document message old document named none =
    some_none (sym named ∙ ap (option_and_then (λ uri. document_at uri old.documents)) none)

-- a document that a message names is open
not_closed : (message : Data) (old : State) (document : OpenDocument) (uri : List ℕ)
    → named_document message old ≡ Some document → uri_in message ≡ Some uri → is_open uri old.documents ≡ false → ⊥
not_closed message old document uri named names closed =
    let found : document_at uri old.documents ≡ Some document =
    sym (ap (option_and_then (λ u. document_at u old.documents)) names) ∙ named in
    true≢false (sym (ap is_some found) ∙ closed)

once_unnamed : (told : List ℕ) (message : Data) (old : State) → Once (IsUnnamed told message old)
once_unnamed told message old r s n m a b = once_turn (log_data told ∷ []) old r s n m a.answered b.answered

once_not_open : (told : List ℕ) (message : Data) (old : State) → Once (IsNotOpen told message old)
once_not_open told message old r s n m a b = once_turn (log_data told ∷ []) old r s n m a.answered b.answered

once_outdated : (message : Data) (old : State) → Once (IsOutdated message old)
once_outdated message old r s n m a b =
    once_turn (log_data (codes "didChange gives an older version: it was let be") ∷ []) old r s n m a.answered
    b.answered

once_closed : (message : Data) (old : State) → Once (IsClosed message old)
once_closed message old r s n m a b =
    let Turns : List ℕ → Type 0 = λ u. IsTurn (cleared old.agreed.pulls u)
    (with_documents (without_document u old.documents) old) r n in
    once_turn (cleared old.agreed.pulls b.uri) (with_documents (without_document b.uri old.documents) old) r s n m
    (subst Turns (some_inj (sym a.names ∙ b.names)) a.turn) b.turn

once_close : (message : Data) (old : State) → Once (OnClose message old)
once_close message old =
    let Closed : List Data → State → Type 0 = IsClosed message old in
    let NotOpen : List Data → State → Type 0 =
    IsNotOpen (codes "didClose names a document that is not open") message old in
    let Unnamed : List Data → State → Type 0 = IsUnnamed (codes "didClose names no document") message old in
    let Other : List Data → State → Type 0 = λ r n. NotOpen r n ⊎ Unnamed r n in
    let other : Once Other = once_either NotOpen Unnamed
    (once_not_open (codes "didClose names a document that is not open") message old)
    (once_unnamed (codes "didClose names no document") message old)
    (λ r s n m a b. some_none (sym a.names ∙ b.none)) in
    let apart : (r s : List Data) (n m : State) → Closed r n → Other s m → ⊥ = λ r s n m a o. elim o [
      | inl b ↦ true≢false (sym a.was_open ∙ (ap (λ u. is_open u old.documents) (some_inj (sym a.names ∙ b.names))
          ∙ b.closed))
      | inr b ↦ some_none (sym a.names ∙ b.none)
    ] in
    once_either Closed Other (once_closed message old) other apart

once_no_method : (id : Option Data) (message : Data) (old : State) → Once (OnNoMethod id message old)
once_no_method None message old r s n m a b = once_turn (refusal_of InvalidRequest null ∷ []) old r s n m a b
once_no_method (Some id) message old r s n m (inl a) (inl b) = once_turn [] old r s n m a.1 b.1
once_no_method (Some id) message old r s n m (inl a) (inr b) = absurd (true≢false (sym a.0 ∙ b.0))
once_no_method (Some id) message old r s n m (inr a) (inl b) = absurd (true≢false (sym b.0 ∙ a.0))
once_no_method (Some id) message old r s n m (inr a) (inr b) =
    once_turn (refusal_of InvalidRequest (identifier_or_null id) ∷ []) old r s n m a.1 b.1

once_fresh : (method : LspMethod) (id message : Data) (old : State) → Once (OnFresh method id message old)
once_fresh Initialize id message old =
    once_turn (result_data id (capabilities_data (agreed_in message).encoding) ∷ [])
    (record { stage = Running; agreed = agreed_in message; documents = old.documents })
once_fresh _ id message old = once_turn (refusal_of ServerNotInitialized id ∷ []) old

-- the mended bytes spoil one document at most
once_spoils : (bytes : List ℕ) (old : State) (one other : Option OpenDocument) → Spoils bytes old one
    → Spoils bytes old other → one ≡ other
once_spoils bytes old None None a b = refl
once_spoils bytes old None (Some d) a b = absurd (some_none (sym b.2 ∙ a b.0 b.1))
once_spoils bytes old (Some d) None a b = absurd (some_none (sym a.2 ∙ b a.0 a.1))
once_spoils bytes old (Some d) (Some e) a b =
    sym a.2 ∙ (ap (λ m. spoiled_in m old) (some_inj (sym a.1.1 ∙ b.1.1)) ∙ b.2)

-- ---- the byte at a position

last_bytes : (encoding : Encoding) (text : List ℕ) (position : Position) (byte other : ℕ)
    → IsLastByte encoding text position byte → IsLastByte encoding text position other → byte ≡ other
last_bytes encoding text position byte other a b = ⊎_elim (λ same. same)
    (λ apart. ⊎_elim (λ less. absurd (a.last other less b.within b.has)) (λ more. absurd (b.last byte more a.within a.has)) apart)
    (cases_order byte other)

one_byte : (encoding : Encoding) (text : List ℕ) (position : Position) (byte other : Option ℕ)
    → IsByteAt encoding text position byte → IsByteAt encoding text position other → byte ≡ other
one_byte encoding text position None None a b = refl
one_byte encoding text position None (Some c) a b = absurd (a c b.within b.has)
one_byte encoding text position (Some c) None a b = absurd (b c a.within a.has)
one_byte encoding text position (Some c) (Some d) a b = ap Some (last_bytes encoding text position c d a b)

module _ (answers : List ℕ → CheckerAnswer → Type 0) (same : IsDetermined answers) where
  -- ---- diagnostics of a text

  one_checked : (agreed : Agreed) (text : Option (List ℕ)) (uri : List ℕ) (a b : List Data)
      → IsChecked answers agreed text uri a → IsChecked answers agreed text uri b → a ≡ b
  one_checked agreed None uri a b x y = x ∙ sym y
  one_checked agreed (Some text) uri a b x y =
      x.are ∙ (same_diagnostics agreed text uri x.found y.found
      (same text (outcome x.found) (outcome y.found) x.finds_it y.finds_it)
      ∙ sym y.are)

  one_checked_as : (agreed : Agreed) (python : Bool) (text : Option (List ℕ)) (uri : List ℕ) (a b : List Data)
      → IsCheckedAs answers agreed python text uri a → IsCheckedAs answers agreed python text uri b → a ≡ b
  one_checked_as agreed false text uri a b x y = x ∙ sym y
  one_checked_as agreed true text uri a b x y = one_checked agreed text uri a b x y

  one_sent : (sent : Bool) (agreed : Agreed) (document : OpenDocument) (a b : List Data)
      → IsSentWhere answers agreed sent document a → IsSentWhere answers agreed sent document b → a ≡ b
  one_sent false agreed document a b x y = x ∙ sym y
  one_sent true agreed document a b x y =
      x.are ∙ (ap (λ d. publish_data document.uri document.version d ∷ [])
      (one_checked agreed document.text document.uri x.diagnostics y.diagnostics x.is_checked y.is_checked) ∙ sym y.are)

  -- ---- the type at a position

  one_type_at : (text : List ℕ) (byte other : Option ℕ) → byte ≡ other → (a b : Option (List ℕ))
      → IsShownAtByte answers text byte a → IsShownAtByte answers text other b → a ≡ b
  one_type_at text None None e a b x y = x ∙ sym y
  one_type_at text None (Some c) e a b x y = absurd (some_none (sym e))
  one_type_at text (Some c) None e a b x y = absurd (some_none e)
  one_type_at text (Some c) (Some d) e a b x y = same text (type_shown c a) (type_shown d b) x y (some_inj e)

  one_type : (encoding : Encoding) (text : List ℕ) (position : Position) (a b : Option (List ℕ))
      → IsShownAt answers encoding text position a → IsShownAt answers encoding text position b → a ≡ b
  one_type encoding text position a b x y = one_type_at text x.byte y.byte
      (one_byte encoding text position x.byte y.byte x.is_there y.is_there) a b x.shown y.shown

  one_told_of : (text : Option (List ℕ)) (position : Position) (agreed : Agreed) (a b : List ℕ)
      → IsToldOf answers text position agreed a → IsToldOf answers text position agreed b → a ≡ b
  one_told_of None position agreed a b x y = x ∙ sym y
  one_told_of (Some text) position agreed a b x y =
      x.are ∙ (same_hovers agreed text position x.type x.declaration x.found y.found
      (same text (outcome x.found) (outcome y.found) x.finds_it y.finds_it)
      ∙ (ap₂ (λ (t d : Option (List ℕ)). hover_text agreed text y.found t d position)
      (one_type agreed.encoding text position x.type y.type x.shows_it y.shows_it)
      (one_declaration agreed.encoding text position x.declaration y.declaration x.declares_it y.declares_it)
      ∙ sym y.are))

  one_told_as : (python : Bool) (text : Option (List ℕ)) (position : Position) (agreed : Agreed) (a b : List ℕ)
      → IsToldAs answers python text position agreed a → IsToldAs answers python text position agreed b → a ≡ b
  one_told_as false text position agreed a b x y = x ∙ sym y
  one_told_as true text position agreed a b x y = one_told_of text position agreed a b x y

  -- ---- requests

  one_pulled : (message id : Data) (old : State) (a b : Data) → IsPulled answers message id old a
      → IsPulled answers message id old b → a ≡ b
  one_pulled message id old a b (inl x) (inl y) =
      let Checks : OpenDocument → Type 0 = λ d. IsCheckedAs answers old.agreed d.python d.text d.uri x.diagnostics in
      let checked : Checks y.document = subst Checks (some_inj (sym x.named ∙ y.named)) x.is_checked in
      x.replied ∙ (ap (λ d. result_data id (full_data d)) (one_checked_as old.agreed y.document.python
      y.document.text y.document.uri x.diagnostics y.diagnostics checked y.is_checked) ∙ sym y.replied)
  one_pulled message id old a b (inl x) (inr y) = absurd (some_none (sym x.named ∙ y.0))
  one_pulled message id old a b (inr x) (inl y) = absurd (some_none (sym y.named ∙ x.0))
  one_pulled message id old a b (inr x) (inr y) = x.1 ∙ sym y.1

  one_hovered : (message id : Data) (old : State) (a b : Data) → IsHovered answers message id old a
      → IsHovered answers message id old b → a ≡ b
  one_hovered message id old a b (inl x) (inl y) =
      let Tells : OpenDocument → Position → Type 0 = λ d p. IsToldAs answers d.python d.text p old.agreed x.told in
      let placed : Tells x.document y.position =
      subst (Tells x.document) (some_inj (sym x.placed ∙ y.placed)) x.is_told in
      let tells : Tells y.document y.position =
      subst (λ d. Tells d y.position) (some_inj (sym x.named ∙ y.named)) placed in
      x.replied ∙ (ap (λ t. result_data id (hover_data t)) (one_told_as y.document.python y.document.text y.position
      old.agreed x.told y.told tells y.is_told) ∙ sym y.replied)
  one_hovered message id old a b (inl x) (inr y) = elim y.0 [
    | inl none ↦ absurd (some_none (sym x.named ∙ none))
    | inr none ↦ absurd (some_none (sym x.placed ∙ none))
  ]
  one_hovered message id old a b (inr x) (inl y) = elim x.0 [
    | inl none ↦ absurd (some_none (sym y.named ∙ none))
    | inr none ↦ absurd (some_none (sym y.placed ∙ none))
  ]
  one_hovered message id old a b (inr x) (inr y) = x.1 ∙ sym y.1

  one_listed : (message id : Data) (old : State) (a b : Data) → IsSymbolReply message id old a → IsSymbolReply message id old b
      → a ≡ b
  one_listed message id old a b (inl x) (inl y) =
      let Has : OpenDocument → Type 0 = λ d. AreSymbolsAs old.agreed.encoding d.python d.text x.symbols in
      let has : Has y.document = subst Has (some_inj (sym x.named ∙ y.named)) x.are in
      x.replied ∙ (ap (λ s. result_data id (symbols_data s)) (same_symbols old.agreed.encoding y.document.python
      y.document.text x.symbols y.symbols has y.are) ∙ sym y.replied)
  one_listed message id old a b (inl x) (inr y) = absurd (some_none (sym x.named ∙ y.0))
  one_listed message id old a b (inr x) (inl y) = absurd (some_none (sym y.named ∙ x.0))
  one_listed message id old a b (inr x) (inr y) = x.1 ∙ sym y.1

  one_located : (message id : Data) (old : State) (a b : Data) → IsLocated message id old a → IsLocated message id old b
      → a ≡ b
  one_located message id old a b (inl x) (inl y) =
      let Has : OpenDocument → Position → Type 0 =
      λ d p. AreDefinitionsAs old.agreed.encoding d.python d.text d.uri p x.definitions in
      let placed : Has x.document y.position = subst (Has x.document) (some_inj (sym x.placed ∙ y.placed)) x.are in
      let has : Has y.document y.position =
      subst (λ d. Has d y.position) (some_inj (sym x.named ∙ y.named)) placed in
      x.replied ∙ (ap (λ ds. result_data id (definitions_data ds)) (same_definitions old.agreed.encoding
      y.document.python y.document.text y.document.uri y.position x.definitions y.definitions has y.are)
      ∙ sym y.replied)
  one_located message id old a b (inl x) (inr y) = elim y.0 [
    | inl none ↦ absurd (some_none (sym x.named ∙ none))
    | inr none ↦ absurd (some_none (sym x.placed ∙ none))
  ]
  one_located message id old a b (inr x) (inl y) = elim x.0 [
    | inl none ↦ absurd (some_none (sym y.named ∙ none))
    | inr none ↦ absurd (some_none (sym y.placed ∙ none))
  ]
  one_located message id old a b (inr x) (inr y) = x.1 ∙ sym y.1

  once_running : (method : LspMethod) (id message : Data) (old : State) → Once (OnRunning answers method id message old)
  once_running Shutdown id message old = once_turn (result_data id null ∷ []) (at_stage ShutDown old)
  once_running Hover id message old =
      once_with (IsHovered answers message id old) old (one_hovered message id old)
  once_running Diagnostic id message old = once_with (IsPulled answers message id old) old (one_pulled message id old)
  once_running DocumentSymbol id message old = once_with (IsSymbolReply message id old) old (one_listed message id old)
  once_running Definition id message old = once_with (IsLocated message id old) old (one_located message id old)
  once_running CodeAction id message old = once_turn (result_data id (array no_items) ∷ []) old
  once_running Initialize id message old = once_turn (refusal_of InvalidRequest id ∷ []) old
  once_running _ id message old = once_turn (refusal_of MethodNotFound id ∷ []) old

  once_request : (stage : Stage) (method : LspMethod) (id message : Data) (old : State)
      → Once (OnRequest answers stage method id message old)
  once_request Fresh method id message old = once_fresh method id message old
  once_request Running method id message old = once_running method id message old
  once_request _ method id message old = once_turn (refusal_of InvalidRequest id ∷ []) old

  -- ---- notifications

  once_kept : (document : OpenDocument) (old : State) → Once (IsKept answers document old)
  once_kept document old r s n m a b = (
    one_sent (is_sent old.agreed document) old.agreed document r s a.published b.published,
    a.new_is ∙ sym b.new_is,
  )

  once_opened : (message : Data) (old : State) → Once (IsOpened answers message old)
  once_opened message old r s n m a b =
      let Keeps : List ℕ → Type 0 = λ u. IsKept answers (opened_in message u) old r n in
      once_kept (opened_in message b.uri) old r s n m (subst Keeps (some_inj (sym a.names ∙ b.names)) a.kept) b.kept

  once_changed : (message : Data) (old : State) → Once (IsChanged answers message old)
  once_changed message old r s n m a b =
      let Keeps : OpenDocument → Type 0 = λ d. IsKept answers (changed_in message d) old r n in
      once_kept (changed_in message b.document) old r s n m
      (subst Keeps (some_inj (sym a.named ∙ b.named)) a.kept) b.kept

  once_open : (message : Data) (old : State) → Once (OnOpen answers message old)
  once_open message old =
      let Opened : List Data → State → Type 0 = IsOpened answers message old in
      let Unnamed : List Data → State → Type 0 = IsUnnamed (codes "didOpen names no document") message old in
      once_either Opened Unnamed (once_opened message old)
      (once_unnamed (codes "didOpen names no document") message old)
      (λ r s n m a b. some_none (sym a.names ∙ b.none))

  once_change : (message : Data) (old : State) → Once (OnChange answers message old)
  once_change message old =
      let Changed : List Data → State → Type 0 = IsChanged answers message old in
      let Outdated : List Data → State → Type 0 = IsOutdated message old in
      let NotOpen : List Data → State → Type 0 =
      IsNotOpen (codes "didChange names a document that is not open") message old in
      let Unnamed : List Data → State → Type 0 = IsUnnamed (codes "didChange names no document") message old in
      let Elsewhere : List Data → State → Type 0 = λ r n. NotOpen r n ⊎ Unnamed r n in
      let Other : List Data → State → Type 0 = λ r n. Outdated r n ⊎ Elsewhere r n in
      let elsewhere : Once Elsewhere = once_either NotOpen Unnamed
      (once_not_open (codes "didChange names a document that is not open") message old)
      (once_unnamed (codes "didChange names no document") message old)
      (λ r s n m a b. some_none (sym a.names ∙ b.none)) in
      let not_named : (d : OpenDocument) (s : List Data) (m : State) → named_document message old ≡ Some d
      → Elsewhere s m → ⊥ = λ d s m named o. elim o [
        | inl b ↦ not_closed message old d b.uri named b.names b.closed
        | inr b ↦ no_document message old d named b.none
      ] in
      let other : Once Other = once_either Outdated Elsewhere (once_outdated message old) elsewhere
      (λ r s n m a o. not_named a.document s m a.named o) in
      let apart : (r s : List Data) (n m : State) → Changed r n → Other s m → ⊥ = λ r s n m a o. elim o [
        | inl b ↦
            let is : a.document ≡ b.document = some_inj (sym a.named ∙ b.named) in
            true≢false (sym b.older ∙ (ap (λ d. is_older (version_in message) d.version) (sym is) ∙ a.in_order))
        | inr e ↦ not_named a.document s m a.named e
      ] in
      once_either Changed Other (once_changed message old) other apart

  once_notice : (method : LspMethod) (message : Data) (old : State) → Once (OnNotice answers method message old)
  once_notice DidOpen message old = once_open message old
  once_notice DidChange message old = once_change message old
  once_notice DidClose message old = once_close message old
  once_notice _ message old = once_turn [] old

  once_at_stage : (stage : Stage) (method : LspMethod) (message : Data) (old : State)
      → Once (OnStage answers stage method message old)
  once_at_stage Running method message old = once_notice method message old
  once_at_stage _ method message old = once_turn [] old

  once_notification : (method : LspMethod) (stage : Stage) (message : Data) (old : State)
      → Once (OnNotification answers method stage message old)
  once_notification Exit stage message old = once_turn [] (at_stage (Ended (exit_status stage)) old)
  once_notification method stage message old = once_at_stage stage method message old

  -- ---- messages

  once_method : (method : LspMethod) (id : Option Data) (message : Data) (old : State)
      → Once (OnMethod answers method id message old)
  once_method method None message old r s n m a b = once_notification method old.stage message old r s n m a b
  once_method method (Some id) message old r s n m (inl a) (inl b) =
      once_request old.stage method id message old r s n m a.1 b.1
  once_method method (Some id) message old r s n m (inl a) (inr b) = absurd (true≢false (sym a.0 ∙ b.0))
  once_method method (Some id) message old r s n m (inr a) (inl b) = absurd (true≢false (sym b.0 ∙ a.0))
  once_method method (Some id) message old r s n m (inr a) (inr b) =
      once_turn (refusal_of InvalidRequest null ∷ []) old r s n m a.1 b.1

  once_message : (message : Data) (old : State) → Once (OnMessage answers message old)
  once_message message old r s n m (inl a) (inl b) =
      let id : Option Data = get (codes "id") message in
      let Does : LspMethod → Type 0 = λ x. OnMethod answers x id message old r n in
      once_method b.method id message old r s n m (subst Does (some_inj (sym a.names ∙ b.names)) a.answered) b.answered
  once_message message old r s n m (inl a) (inr b) = absurd (some_none (sym a.names ∙ b.none))
  once_message message old r s n m (inr a) (inl b) = absurd (some_none (sym b.names ∙ a.none))
  once_message message old r s n m (inr a) (inr b) =
      once_no_method (get (codes "id") message) message old r s n m a.answered b.answered

  once_spoiled : (document : Option OpenDocument) (old : State) → Once (OnSpoiled answers document old)
  once_spoiled None old =
      once_turn (refusal_of ParseError null ∷ (unknown_all old ++ told_of old.documents)) (forgot old)
  once_spoiled (Some document) old = once_kept document old

  once_step : (bytes : List ℕ) (old : State) → Once (Step answers old bytes)
  once_step bytes old r s n m (inl a) (inl b) =
      let Does : Data → Type 0 = λ x. OnMessage answers x old r n in
      once_message b.message old r s n m (subst Does (some_inj (sym a.spelled ∙ b.spelled)) a.answered) b.answered
  once_step bytes old r s n m (inl a) (inr b) = absurd (some_none (sym a.spelled ∙ b.no_json a.utf8))
  once_step bytes old r s n m (inr a) (inl b) = absurd (some_none (sym b.spelled ∙ a.no_json b.utf8))
  once_step bytes old r s n m (inr a) (inr b) =
      let Does : Option OpenDocument → Type 0 = λ x. OnSpoiled answers x old r n in
      let one : a.document ≡ b.document = once_spoils bytes old a.document b.document a.spoils b.spoils in
      once_spoiled b.document old r s n m (subst Does one a.spoiled) b.spoiled

  -- ---- sessions

  never_both : (message : List ℕ) → length message ≤ message_limit → message_limit < length message → ⊥
  never_both message short long = omega arith

  once_exchange : (lost : Bool) (message : List ℕ) (old : State) → Once (Exchange answers lost message old)
  once_exchange true message old r s n m a b = once_turn (lost_data ∷ []) (forgot old) r s n m a b
  once_exchange false message old r s n m (inl a) (inl b) = once_step message old r s n m a.1 b.1
  once_exchange false message old r s n m (inl a) (inr b) = absurd (never_both message a.0 b.0)
  once_exchange false message old r s n m (inr a) (inl b) = absurd (never_both message b.0 a.0)
  once_exchange false message old r s n m (inr a) (inr b) =
      once_turn (refusal_of TooLong null ∷ (unknown_all old ++ told_of old.documents)) (forgot old) r s n m a.1 b.1

  once_exchanges : (arrivals : List Arrival) (old : State) → Once (Exchanges answers old arrivals)
  once_exchanges [] old r s n m a b = (a.0 ∙ sym b.0, a.1 ∙ sym b.1)
  once_exchanges (arrival ∷ arrivals) old r s n m a b =
      let first = once_exchange arrival.lost arrival.message old a.0 b.0 a.2 b.2 a.3 b.3 in
      let Goes : State → Type 0 = λ x. Exchanges answers x arrivals a.1 n in
      let rest = once_exchanges arrivals b.2 a.1 b.1 n m (subst Goes first.1 a.4) b.4 in
      (a.5 ∙ (ap₂ (λ x y. x ++ y) first.0 rest.0 ∙ sym b.5), rest.1)

  pub determined : RepliesAreDetermined answers
  determined arrivals replies others session other a b =
      once_exchanges arrivals fresh replies others session other a b
