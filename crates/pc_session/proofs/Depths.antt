-- No reply nests deep, so the text of each reads back.
use Rattle.std.specs.List.{AllZip}
use Rattle.std.specs.Prelude.{codes, ℤ, Bool, false, filter, nat_le, ◌==◌, ◌&&◌, not}
use Rattle.std.proofs.Common.{◌≡◌, ℕ, ◌≤◌, suc, List, [], ◌∷◌, ◌++◌, map, Option, None, Some, true, refl, sym, subst}
use Rattle.std.proofs.Common.{inl, inr, arith, zero, cond, take, length, ◌-◌}
use Rattle.std.proofs.Math.Nat.{max-le, le-max_left, le-max_right, le_trans}
use Rattle.std.proofs.lemmas.Bool.{false≢true}
use Rattle.serde_json.specs.Data.{Data, null, boolean, number, string, array, object, no_items, depth, items_depth}
use Rattle.serde_json.specs.Find.{get}
use Rattle.serde_json.specs.Read.{max_depth}
use Rattle.serde_json.specs.View.{items_of}
use Rattle.pc_source.specs.declared.place.Place.{Place}
use Rattle.pc_source.specs.Refusals.{code_text}
use Rattle.pc_position.specs.declared.positions.Encoding.{Encoding}
use Rattle.pc_tree.specs.Code.{text_of}
use Rattle.pc_code_texts.specs.Refusals.{refusal_meaning_of}
use Rattle.pc_documents.specs.declared.checker.CheckOutcome.{CheckOutcome}
use Rattle.pc_documents.specs.CheckerAnswers.{CheckerAnswer}
use Rattle.pc_documents.specs.declared.checker.CheckOutcome.TheVariants.{Items, Refused}
use Rattle.pc_documents.specs.declared.checker.ReportedFinding.{ReportedFinding}
use Rattle.pc_documents.specs.declared.checker.ToldDetail.{ToldDetail}
use Rattle.pc_documents.specs.Agreed.{Agreed}
use Rattle.pc_documents.specs.Anchors.{anchor_of, refusal_anchor_of, entry_at}
use Rattle.pc_documents.specs.Checked.{IsChecked, IsCheckedAs, is_sent}
use Rattle.pc_documents.specs.Diagnostics.{range_data, place_data, related_to, related_data, diagnostic_data, item_data}
use Rattle.pc_documents.specs.Diagnostics.{refusal_data, found_data, severity_of, message_text, limited, more_data}
use Rattle.pc_documents.specs.Diagnostics.{unknown_data, start_of, end_of}
use Rattle.pc_documents.specs.Documents.{OpenDocument}
use Rattle.pc_documents.proofs.Defining.{definitions_as_low}
use Rattle.pc_documents.proofs.Listing.{symbols_as_low}
use Rattle.pc_session.specs.declared.messages.LspMethod.{LspMethod}
use Rattle.pc_session.specs.declared.messages.LspMethod.TheVariants.{Initialize, Initialized, Shutdown, Exit, DidOpen}
use Rattle.pc_session.specs.declared.messages.LspMethod.TheVariants.{DidChange, DidSave, DidClose, Hover, Diagnostic}
use Rattle.pc_session.specs.declared.messages.LspMethod.TheVariants.{CodeAction, DocumentSymbol, Definition, Other}
use Rattle.pc_session.specs.declared.replies.ErrorCode.{ErrorCode}
use Rattle.pc_session.specs.declared.replies.ErrorCode.TheVariants.{ParseError, InvalidRequest, MethodNotFound}
use Rattle.pc_session.specs.declared.replies.ErrorCode.TheVariants.{InvalidParams, ServerNotInitialized, TooLong}
use Rattle.pc_session.specs.declared.session.Stage.{Stage}
use Rattle.pc_session.specs.declared.session.Stage.TheVariants.{Fresh, Running, ShutDown, Ended}
use Rattle.pc_session.specs.Messages.{is_identifier, agreed_in}
use Rattle.pc_session.specs.Publications.{IsPublished, IsSentWhere}
use Rattle.pc_session.specs.Replies.{publish_data, result_data, full_data, hover_data, capabilities_data, refusal_of}
use Rattle.pc_session.specs.Replies.{symbols_data, definitions_data}
use Rattle.pc_session.specs.Sent.{IsTextOf, AreSent, SendsRefusal}
use Rattle.pc_session.specs.Sessions.{IsTurn, OnOpen, OnChange, OnClose, OnNoMethod, OnFresh, OnRunning, OnRequest}
use Rattle.pc_session.specs.Sessions.{OnNotice, OnStage, OnNotification, OnMethod, OnMessage, IsUnreadable, Step}
use Rattle.pc_session.specs.Sessions.{IsPulled, IsHovered, IsSymbolReply, RepliesWith, unknown_of, unknown_all, told_of}
use Rattle.pc_session.specs.Sessions.{IsLocated, cleared, OnSpoiled, opened_in, changed_in, identifier_or_null}
use Rattle.pc_session.specs.Spelled.{IsSpelled, AreSpelled}
use Rattle.pc_session.specs.States.{State}

-- each of the values is shallow enough to be read
abbrev AreShallow : List Data → Type 0
AreShallow [] = Unit {0}
AreShallow (d ∷ ds) = (depth d ≤ max_depth) × AreShallow ds

z : (n : ℕ) → 0 ≤ n
z n = omega arith

up : (a b : ℕ) → a ≤ b → suc a ≤ suc b
up a b h = omega arith

-- ---- values

-- a value of depth 0 to 9 is shallow
low : (d : Data) (n : ℕ) → n ≤ 9 → depth d ≤ n → depth d ≤ max_depth
low d n small h = omega arith

-- a value that is there is no deeper than 5
abbrev IsLowIfSome : Option Data → Type 0
IsLowIfSome None = Unit {0}
IsLowIfSome (Some d) = depth d ≤ 5

places_low : (e : Encoding) (text uri : List ℕ) (places : List Place)
    → items_depth (items_of (map (place_data e text uri) places)) ≤ 4
places_low e text uri [] = z 4
places_low e text uri (at ∷ places) =
    let four : 4 ≤ 4 = omega arith in max-le four (places_low e text uri places)

related_places_low : (agreed : Agreed) (text uri : List ℕ) (places : List Place)
    → IsLowIfSome (related_to agreed text uri places)
related_places_low agreed text uri places =
    let entries : Data = array (items_of (map (place_data agreed.encoding text uri) places)) in
    let M : Bool → Type 0 = λ b. IsLowIfSome (cond b (Some entries) None) in
    elim (agreed.related && not (length places == 0)) as M
    [ true ↦ up _ 4 (places_low agreed.encoding text uri places) | false ↦ tt ]

related_low : (agreed : Agreed) (text uri : List ℕ) (detail : Option ToldDetail)
    → IsLowIfSome (related_data agreed text uri detail)
related_low agreed text uri None = tt
related_low agreed text uri (Some detail) = related_places_low agreed text uri detail.others.items

diagnostic_low : (page : Option (List ℕ)) (related : Option Data) (e : Encoding) (text : List ℕ)
    (start end severity : ℕ) (code message : List ℕ) → IsLowIfSome related
    → depth (diagnostic_data page related (range_data e text start end) severity code message) ≤ 6
diagnostic_low None None e text start end severity code message h =
    let is : depth (diagnostic_data None None (range_data e text start end) severity code message) ≡ 3 = refl in
    omega (arith, is)
diagnostic_low (Some page) None e text start end severity code message h =
    let is : depth (diagnostic_data (Some page) None (range_data e text start end) severity code message) ≡ 3 = refl in
    omega (arith, is)
diagnostic_low None (Some related) e text start end severity code message h =
    let range : 2 ≤ 5 = omega arith in
    up _ 5 (max-le (z 5) (max-le (z 5) (max-le range (max-le h (max-le (z 5) (max-le (z 5) (z 5)))))))
diagnostic_low (Some page) (Some related) e text start end severity code message h =
    let link : 1 ≤ 5 = omega arith in
    let range : 2 ≤ 5 = omega arith in
    up _ 5 (max-le (z 5) (max-le link (max-le (z 5) (max-le range (max-le h (max-le (z 5) (max-le (z 5) (z 5))))))))

items_low : (agreed : Agreed) (text uri : List ℕ) (items : List ReportedFinding)
    → items_depth (items_of (map (item_data agreed text uri) items)) ≤ 6
items_low agreed text uri [] = z 6
items_low agreed text uri (item ∷ items) =
    let first : depth (item_data agreed text uri item) ≤ 6 =
    diagnostic_low (entry_at agreed.codes_page (anchor_of item.finding.code)) (related_data agreed text uri item.detail)
    agreed.encoding text item.finding.place.start item.finding.place.end
    (severity_of agreed.dynamic_severity item.finding.code) (text_of item.finding.code)
    (message_text item.finding.code item.flow item.detail) (related_low agreed text uri item.detail) in
    max-le first (items_low agreed text uri items)

-- the first items, and one more
first_low : (n : ℕ) (ds : List Data) (last : Data) → items_depth (items_of ds) ≤ 6 → depth last ≤ 6
    → items_depth (items_of (take n ds ++ last ∷ [])) ≤ 6
first_low zero ds last low one = max-le one (z 6)
first_low (suc n) [] last low one = max-le one (z 6)
first_low (suc n) (d ∷ ds) last low one =
    let first : depth d ≤ 6 = le_trans (le-max_left (depth d) (items_depth (items_of ds))) low in
    let others : items_depth (items_of ds) ≤ 6 = le_trans (le-max_right (depth d) (items_depth (items_of ds))) low in
    max-le first (first_low n ds last others one)

limited_low : (ds : List Data) → items_depth (items_of ds) ≤ 6 → items_depth (items_of (limited ds)) ≤ 6
limited_low ds low =
    let Low : List Data → Type 0 = λ l. items_depth (items_of l) ≤ 6 in
    let M : Bool → Type 0 = λ b. Low (cond b ds (take 999 ds ++ more_data (length ds - 999) ∷ [])) in
    let one : depth (more_data (length ds - 999)) ≤ 6 = omega arith in
    elim (nat_le (length ds) 1000) as M [ true ↦ low | false ↦ first_low 999 ds (more_data (length ds - 999)) low one ]

found_low : (agreed : Agreed) (text uri : List ℕ) (found : CheckOutcome)
    → items_depth (items_of (found_data agreed text uri found)) ≤ 6
found_low agreed text uri (Items items) =
    limited_low (map (item_data agreed text uri) items.items) (items_low agreed text uri items.items)
found_low agreed text uri (Refused refusal) =
    let first : depth (refusal_data agreed text refusal) ≤ 6 =
    diagnostic_low (entry_at agreed.codes_page (refusal_anchor_of refusal.code)) None agreed.encoding text
    (start_of text refusal.byte) (end_of text refusal.byte) 1 (code_text refusal.code) (refusal_meaning_of refusal.code)
    tt in
    max-le first (z 6)

publish_low : (uri : List ℕ) (version : Option ℤ) (ds : List Data) → items_depth (items_of ds) ≤ 6
    → depth (publish_data uri version ds) ≤ max_depth
publish_low uri None ds h =
    let listed : suc (items_depth (items_of ds)) ≤ 7 = up _ 6 h in
    let params = up _ 7 (max-le listed (max-le (z 7) (z 7))) in
    low (publish_data uri None ds) 9 (omega arith) (up _ 8 (max-le (z 8) (max-le (z 8) (max-le params (z 8)))))
publish_low uri (Some version) ds h =
    let listed : suc (items_depth (items_of ds)) ≤ 7 = up _ 6 h in
    let params = up _ 7 (max-le listed (max-le (z 7) (max-le (z 7) (z 7)))) in
    low (publish_data uri (Some version) ds) 9 (omega arith)
    (up _ 8 (max-le (z 8) (max-le (z 8) (max-le params (z 8)))))

-- a line for the log has depth 2
log_low : 2 ≤ max_depth
log_low = omega arith

result_low : (id result : Data) → depth id ≡ 0 → depth result ≤ 8 → depth (result_data id result) ≤ max_depth
result_low id result flat h =
    let own : depth id ≤ 8 = omega arith in
    low (result_data id result) 9 (omega arith) (up _ 8 (max-le own (max-le (z 8) (max-le h (z 8)))))

refusal_low : (code : ErrorCode) (id : Data) → depth id ≡ 0 → depth (refusal_of code id) ≤ max_depth
refusal_low code id flat =
    let own : depth id ≤ 1 = omega arith in
    let told : 1 ≤ 1 = omega arith in
    low (refusal_of code id) 2 (omega arith) (up _ 1 (max-le told (max-le own (max-le (z 1) (z 1)))))

full_low : (ds : List Data) → items_depth (items_of ds) ≤ 6 → depth (full_data ds) ≤ 8
full_low ds h =
    let listed : suc (items_depth (items_of ds)) ≤ 7 = up _ 6 h in
    up _ 7 (max-le listed (max-le (z 7) (z 7)))

listed_low : (id : Data) (symbols : List Data) → depth id ≡ 0 → items_depth (items_of symbols) ≤ 5
    → depth (result_data id (symbols_data symbols)) ≤ max_depth
listed_low id symbols flat h =
    let own : depth id ≤ 6 = omega arith in
    low (result_data id (symbols_data symbols)) 7 (omega arith)
    (up _ 6 (max-le own (max-le (z 6) (max-le (up _ 5 h) (z 6)))))

located_low : (id : Data) (definitions : List Data) → depth id ≡ 0 → items_depth (items_of definitions) ≤ 3
    → depth (result_data id (definitions_data definitions)) ≤ max_depth
located_low id definitions flat h =
    let more : items_depth (items_of definitions) ≤ 5 = omega arith in listed_low id definitions flat more

hover_low : (told : List ℕ) → depth (hover_data told) ≤ 8
hover_low [] = z 8
hover_low (byte ∷ bytes) = let is : depth (hover_data (byte ∷ bytes)) ≡ 2 = refl in omega (arith, is)

capabilities_low : (encoding : Encoding) → depth (capabilities_data encoding) ≤ 8
capabilities_low encoding = let is : depth (capabilities_data encoding) ≡ 3 = refl in omega (arith, is)

-- an identifier is no array and no object
flat_identifier : (id : Data) → is_identifier id ≡ true → depth id ≡ 0
flat_identifier null h = refl
flat_identifier (boolean b) h = refl
flat_identifier (number n) h = refl
flat_identifier (string s) h = refl
flat_identifier (array ds) h = absurd (false≢true h)
flat_identifier (object ms) h = absurd (false≢true h)

flat_or_null : (id : Data) → depth (identifier_or_null id) ≡ 0
flat_or_null null = refl
flat_or_null (boolean b) = refl
flat_or_null (number n) = refl
flat_or_null (string s) = refl
flat_or_null (array ds) = refl
flat_or_null (object ms) = refl

-- ---- replies

shallow_append : (xs ys : List Data) → AreShallow xs → AreShallow ys → AreShallow (xs ++ ys)
shallow_append [] ys a b = b
shallow_append (x ∷ xs) ys a b = (a.0, shallow_append xs ys a.1 b)

turned : {wanted : List Data} {next new : State} {replies : List Data} → IsTurn wanted next replies new
    → AreShallow wanted → AreShallow replies
turned turn shallow = subst AreShallow (sym turn.replies_are) shallow

answered : {reply : Data} {next new : State} {replies : List Data} → IsTurn (reply ∷ []) next replies new
    → depth reply ≤ max_depth → AreShallow replies
answered turn low = turned turn (low, tt)

unknown_low : items_depth (items_of (unknown_data ∷ [])) ≤ 6
unknown_low = omega arith

unknown_shallow : (documents : List OpenDocument) → AreShallow (map unknown_of documents)
unknown_shallow [] = tt
unknown_shallow (document ∷ documents) =
    (publish_low document.uri document.version (unknown_data ∷ []) unknown_low, unknown_shallow documents)

cleared_shallow : (pulls : Bool) (uri : List ℕ) → AreShallow (cleared pulls uri)
cleared_shallow true uri = tt
cleared_shallow false uri = (publish_low uri None [] (z 6), tt)

told_of_shallow : (documents : List OpenDocument) → AreShallow (told_of documents)
told_of_shallow [] = tt
told_of_shallow (document ∷ documents) = (log_low, tt)

unreadable : (code : ErrorCode) (old new : State) (replies : List Data) → IsUnreadable code old replies new
    → AreShallow replies
unreadable code old new replies turn = turned turn (
  refusal_low code null refl,
  shallow_append (unknown_all old) (told_of old.documents)
      (unknown_shallow (filter (is_sent old.agreed) old.documents)) (told_of_shallow old.documents),
)

module _ (answers : List ℕ → CheckerAnswer → Type 0) where
  checked_low : (agreed : Agreed) (text : Option (List ℕ)) (uri : List ℕ) (ds : List Data)
      → IsChecked answers agreed text uri ds → items_depth (items_of ds) ≤ 6
  checked_low agreed None uri ds checked =
      subst (λ (l : List Data). items_depth (items_of l) ≤ 6) (sym checked) unknown_low
  checked_low agreed (Some text) uri ds checked =
      subst (λ (l : List Data). items_depth (items_of l) ≤ 6) (sym checked.are) (found_low agreed text uri checked.found)

  checked_as_low : (agreed : Agreed) (python : Bool) (text : Option (List ℕ)) (uri : List ℕ) (ds : List Data)
      → IsCheckedAs answers agreed python text uri ds → items_depth (items_of ds) ≤ 6
  checked_as_low agreed false text uri ds checked =
      subst (λ (l : List Data). items_depth (items_of l) ≤ 6) (sym checked) (z 6)
  checked_as_low agreed true text uri ds checked = checked_low agreed text uri ds checked

  sent_where : (agreed : Agreed) (sent : Bool) (document : OpenDocument) (replies : List Data)
      → IsSentWhere answers agreed sent document replies → AreShallow replies
  sent_where agreed false document replies it = subst AreShallow (sym it) tt
  sent_where agreed true document replies it = subst AreShallow (sym it.are) (
    publish_low document.uri document.version it.diagnostics
        (checked_low agreed document.text document.uri it.diagnostics it.is_checked),
    tt,
  )

  published : (agreed : Agreed) (document : OpenDocument) (replies : List Data)
      → IsPublished answers agreed document replies → AreShallow replies
  published agreed document replies it = sent_where agreed (is_sent agreed document) document replies it

  opened : (message : Data) (old new : State) (replies : List Data) → OnOpen answers message old replies new
      → AreShallow replies
  opened message old new replies (inl it) =
      published old.agreed (opened_in message it.uri) replies it.kept.published
  opened message old new replies (inr it) = answered it.answered log_low

  changed : (message : Data) (old new : State) (replies : List Data) → OnChange answers message old replies new
      → AreShallow replies
  changed message old new replies (inl it) =
      published old.agreed (changed_in message it.document) replies it.kept.published
  changed message old new replies (inr (inl it)) = answered it.answered log_low
  changed message old new replies (inr (inr (inl it))) = answered it.answered log_low
  changed message old new replies (inr (inr (inr it))) = answered it.answered log_low

  closed : (message : Data) (old new : State) (replies : List Data) → OnClose message old replies new
      → AreShallow replies
  closed message old new replies (inl it) = turned it.turn (cleared_shallow old.agreed.pulls it.uri)
  closed message old new replies (inr (inl it)) = answered it.answered log_low
  closed message old new replies (inr (inr it)) = answered it.answered log_low

  noticed : (method : LspMethod) (message : Data) (old new : State) (replies : List Data)
      → OnNotice answers method message old replies new → AreShallow replies
  noticed DidOpen message old new replies h = opened message old new replies h
  noticed DidChange message old new replies h = changed message old new replies h
  noticed DidClose message old new replies h = closed message old new replies h
  noticed Initialize message old new replies h = turned h tt
  noticed Initialized message old new replies h = turned h tt
  noticed Shutdown message old new replies h = turned h tt
  noticed Exit message old new replies h = turned h tt
  noticed DidSave message old new replies h = turned h tt
  noticed Hover message old new replies h = turned h tt
  noticed Diagnostic message old new replies h = turned h tt
  noticed CodeAction message old new replies h = turned h tt
  noticed DocumentSymbol message old new replies h = turned h tt
  noticed Definition message old new replies h = turned h tt
  noticed Other message old new replies h = turned h tt

  staged : (stage : Stage) (method : LspMethod) (message : Data) (old new : State) (replies : List Data)
      → OnStage answers stage method message old replies new → AreShallow replies
  staged Running method message old new replies h = noticed method message old new replies h
  staged Fresh method message old new replies h = turned h tt
  staged ShutDown method message old new replies h = turned h tt
  staged (Ended status) method message old new replies h = turned h tt

  notified : (method : LspMethod) (stage : Stage) (message : Data) (old new : State) (replies : List Data)
      → OnNotification answers method stage message old replies new → AreShallow replies
  notified Exit stage message old new replies h = turned h tt
  notified Initialize stage message old new replies h = staged stage Initialize message old new replies h
  notified Initialized stage message old new replies h = staged stage Initialized message old new replies h
  notified Shutdown stage message old new replies h = staged stage Shutdown message old new replies h
  notified DidOpen stage message old new replies h = staged stage DidOpen message old new replies h
  notified DidChange stage message old new replies h = staged stage DidChange message old new replies h
  notified DidSave stage message old new replies h = staged stage DidSave message old new replies h
  notified DidClose stage message old new replies h = staged stage DidClose message old new replies h
  notified Hover stage message old new replies h = staged stage Hover message old new replies h
  notified Diagnostic stage message old new replies h = staged stage Diagnostic message old new replies h
  notified DocumentSymbol stage message old new replies h = staged stage DocumentSymbol message old new replies h
  notified Definition stage message old new replies h = staged stage Definition message old new replies h
  notified CodeAction stage message old new replies h = staged stage CodeAction message old new replies h
  notified Other stage message old new replies h = staged stage Other message old new replies h

  pulled : (message id : Data) (old new : State) (replies : List Data) → depth id ≡ 0
      → RepliesWith (IsPulled answers message id old) old replies new → AreShallow replies
  pulled message id old new replies flat it =
      let Low : Data → Type 0 = λ d. depth d ≤ max_depth in
      let low_reply : Low it.reply = elim it.is_reply [
        | inl of_it ↦
            let listed : items_depth (items_of of_it.diagnostics) ≤ 6 =
            checked_as_low old.agreed of_it.document.python of_it.document.text of_it.document.uri of_it.diagnostics
            of_it.is_checked in
            subst Low (sym of_it.replied) (result_low id (full_data of_it.diagnostics) flat
            (full_low of_it.diagnostics listed))
        | inr none ↦ subst Low (sym none.1) (refusal_low InvalidParams id flat)
      ] in
      answered it.answered low_reply

  hovered : (message id : Data) (old new : State) (replies : List Data) → depth id ≡ 0
      → RepliesWith (IsHovered answers message id old) old replies new → AreShallow replies
  hovered message id old new replies flat it =
      let Low : Data → Type 0 = λ d. depth d ≤ max_depth in
      let low_reply : Low it.reply = elim it.is_reply [
        | inl of_it ↦
            subst Low (sym of_it.replied) (result_low id (hover_data of_it.told) flat (hover_low of_it.told))
        | inr none ↦ subst Low (sym none.1) (refusal_low InvalidParams id flat)
      ] in
      answered it.answered low_reply

  listed : (message id : Data) (old new : State) (replies : List Data) → depth id ≡ 0
      → RepliesWith (IsSymbolReply message id old) old replies new → AreShallow replies
  listed message id old new replies flat it =
      let Low : Data → Type 0 = λ d. depth d ≤ max_depth in
      let low_reply : Low it.reply = elim it.is_reply [
        | inl of_it ↦
            subst Low (sym of_it.replied) (listed_low id of_it.symbols flat (symbols_as_low old.agreed.encoding
            of_it.document.python of_it.document.text of_it.symbols of_it.are))
        | inr none ↦ subst Low (sym none.1) (refusal_low InvalidParams id flat)
      ] in
      answered it.answered low_reply

  located : (message id : Data) (old new : State) (replies : List Data) → depth id ≡ 0
      → RepliesWith (IsLocated message id old) old replies new → AreShallow replies
  located message id old new replies flat it =
      let Low : Data → Type 0 = λ d. depth d ≤ max_depth in
      let low_reply : Low it.reply = elim it.is_reply [
        | inl of_it ↦
            subst Low (sym of_it.replied) (located_low id of_it.definitions flat (definitions_as_low
            old.agreed.encoding of_it.document.python of_it.document.text of_it.document.uri of_it.position
            of_it.definitions of_it.are))
        | inr none ↦ subst Low (sym none.1) (refusal_low InvalidParams id flat)
      ] in
      answered it.answered low_reply

  running : (method : LspMethod) (id message : Data) (old new : State) (replies : List Data) → depth id ≡ 0
      → OnRunning answers method id message old replies new → AreShallow replies
  running Shutdown id message old new replies flat h = answered h (result_low id null flat (z 8))
  running Hover id message old new replies flat h = hovered message id old new replies flat h
  running Diagnostic id message old new replies flat h = pulled message id old new replies flat h
  running DocumentSymbol id message old new replies flat h = listed message id old new replies flat h
  running Definition id message old new replies flat h = located message id old new replies flat h
  running CodeAction id message old new replies flat h =
      answered h (result_low id (array no_items) flat (omega arith))
  running Initialize id message old new replies flat h = answered h (refusal_low InvalidRequest id flat)
  running Initialized id message old new replies flat h = answered h (refusal_low MethodNotFound id flat)
  running Exit id message old new replies flat h = answered h (refusal_low MethodNotFound id flat)
  running DidOpen id message old new replies flat h = answered h (refusal_low MethodNotFound id flat)
  running DidChange id message old new replies flat h = answered h (refusal_low MethodNotFound id flat)
  running DidSave id message old new replies flat h = answered h (refusal_low MethodNotFound id flat)
  running DidClose id message old new replies flat h = answered h (refusal_low MethodNotFound id flat)
  running Other id message old new replies flat h = answered h (refusal_low MethodNotFound id flat)

  begun : (method : LspMethod) (id message : Data) (old new : State) (replies : List Data) → depth id ≡ 0
      → OnFresh method id message old replies new → AreShallow replies
  begun Initialize id message old new replies flat h =
      answered h (result_low id (capabilities_data (agreed_in message).encoding) flat
      (capabilities_low (agreed_in message).encoding))
  begun Initialized id message old new replies flat h = answered h (refusal_low ServerNotInitialized id flat)
  begun Shutdown id message old new replies flat h = answered h (refusal_low ServerNotInitialized id flat)
  begun Exit id message old new replies flat h = answered h (refusal_low ServerNotInitialized id flat)
  begun DidOpen id message old new replies flat h = answered h (refusal_low ServerNotInitialized id flat)
  begun DidChange id message old new replies flat h = answered h (refusal_low ServerNotInitialized id flat)
  begun DidSave id message old new replies flat h = answered h (refusal_low ServerNotInitialized id flat)
  begun DidClose id message old new replies flat h = answered h (refusal_low ServerNotInitialized id flat)
  begun Hover id message old new replies flat h = answered h (refusal_low ServerNotInitialized id flat)
  begun Diagnostic id message old new replies flat h = answered h (refusal_low ServerNotInitialized id flat)
  begun DocumentSymbol id message old new replies flat h = answered h (refusal_low ServerNotInitialized id flat)
  begun Definition id message old new replies flat h = answered h (refusal_low ServerNotInitialized id flat)
  begun CodeAction id message old new replies flat h = answered h (refusal_low ServerNotInitialized id flat)
  begun Other id message old new replies flat h = answered h (refusal_low ServerNotInitialized id flat)

  requested : (stage : Stage) (method : LspMethod) (id message : Data) (old new : State) (replies : List Data)
      → depth id ≡ 0 → OnRequest answers stage method id message old replies new → AreShallow replies
  requested Fresh method id message old new replies flat h = begun method id message old new replies flat h
  requested Running method id message old new replies flat h = running method id message old new replies flat h
  requested ShutDown method id message old new replies flat h = answered h (refusal_low InvalidRequest id flat)
  requested (Ended status) method id message old new replies flat h =
      answered h (refusal_low InvalidRequest id flat)

  with_method : (method : LspMethod) (id : Option Data) (message : Data) (old new : State) (replies : List Data)
      → OnMethod answers method id message old replies new → AreShallow replies
  with_method method None message old new replies h = notified method old.stage message old new replies h
  with_method method (Some id) message old new replies (inl h) =
      requested old.stage method id message old new replies (flat_identifier id h.0) h.1
  with_method method (Some id) message old new replies (inr h) =
      answered h.1 (refusal_low InvalidRequest null refl)

  without_method : (id : Option Data) (message : Data) (old new : State) (replies : List Data)
      → OnNoMethod id message old replies new → AreShallow replies
  without_method None message old new replies h = answered h (refusal_low InvalidRequest null refl)
  without_method (Some id) message old new replies (inl h) = turned h.1 tt
  without_method (Some id) message old new replies (inr h) =
      answered h.1 (refusal_low InvalidRequest (identifier_or_null id) (flat_or_null id))

  messaged : (message : Data) (old new : State) (replies : List Data) → OnMessage answers message old replies new
      → AreShallow replies
  messaged message old new replies (inl it) = with_method it.method (get (codes "id") message) message old new replies
      it.answered
  messaged message old new replies (inr it) = without_method (get (codes "id") message) message old new replies
      it.answered

  spoiled : (document : Option OpenDocument) (old new : State) (replies : List Data)
      → OnSpoiled answers document old replies new → AreShallow replies
  spoiled None old new replies h = unreadable ParseError old new replies h
  spoiled (Some document) old new replies h = published old.agreed document replies h.published

  stepped : (old new : State) (bytes : List ℕ) (replies : List Data) → Step answers old bytes replies new
      → AreShallow replies
  stepped old new bytes replies (inl it) = messaged it.message old new replies it.answered
  stepped old new bytes replies (inr it) = spoiled it.document old new replies it.spoiled

-- ---- texts

texts_of : (replies : List Data) (texts : List (List ℕ)) → AreShallow replies → AllZip IsSpelled replies texts
    → AllZip IsTextOf replies texts
texts_of [] [] shallow spelled = tt
texts_of [] (text ∷ texts) shallow spelled = absurd spelled
texts_of (reply ∷ replies) [] shallow spelled = absurd spelled
texts_of (reply ∷ replies) (text ∷ texts) shallow spelled = (
  record { compact = spelled.0.compact; reads_back = spelled.0.if_shallow shallow.0 },
  texts_of replies texts shallow.1 spelled.1,
)

-- shallow replies are sent where they are spelled
sent_of : (replies : List Data) (bytes : List ℕ) → AreShallow replies → AreSpelled replies bytes
    → AreSent replies bytes
sent_of replies bytes shallow spelled = record {
  texts = spelled.texts;
  each = texts_of replies spelled.texts shallow spelled.each;
  framed = spelled.framed;
}

-- bytes that spell the replies of a step are the replies as they are sent
pub sent : (answers : List ℕ → CheckerAnswer → Type 0) (old new : State) (message bytes : List ℕ) (replies : List Data)
    → Step answers old message replies new → AreSpelled replies bytes → AreSent replies bytes
sent answers old new message bytes replies step spelled =
    sent_of replies bytes (stepped answers old new message replies step) spelled

-- bytes that spell the replies to a message that is not read are the replies as they are sent
pub refused_sent : (old new : State) (bytes : List ℕ) (replies : List Data) → IsUnreadable TooLong old replies new
    → AreSpelled replies bytes → SendsRefusal old bytes new
refused_sent old new bytes replies refused spelled = record {
  replies = replies;
  refused = refused;
  are_sent = sent_of replies bytes (unreadable TooLong old new replies refused) spelled;
}
