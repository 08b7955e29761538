-- The proved check always says the same of a text, and shows the same types in it, so the replies to messages are
-- determined.
use Rattle.std.proofs.Common.{◌≡◌, ℕ, suc, List, [], ◌∷◌, length, map, Option, None, Some, refl, sym, ap, ap₂}
use Rattle.std.proofs.Common.{◌∙◌, subst, inl, inr, arith}
use Rattle.std.specs.Prelude.{◌++◌, codes, option_map}
use Rattle.std.specs.Rc.{rc_str_bytes}
use Rattle.std.specs.declared.rc.RcStr.{RcStr}
use Rattle.std.specs.declared.alloc.Global.{Global}
use Rattle.pc_front.proofs.BytesLaws.{no_refusal}
use Rattle.pc_front.proofs.OneRefusal.{one_refusal}
use Rattle.pc_source.specs.declared.place.Place.{Place}
use Rattle.pc_tree.specs.declared.code.Finding.{Finding}
use Rattle.pc_tree.specs.Tree.{Module}
use Rattle.pc_detail_texts.specs.Details.{Detail}
use Rattle.pc_detail_texts.specs.Sentences.{Words}
use Rattle.pc_report.specs.declared.flow.FlowTexts.{FlowTexts}
use Rattle.pc_report.specs.declared.report.Row.{Row}
use Rattle.pc_report.specs.Report.{row_flow}
use Rattle.pc_top.specs.OneReport.{RowSays, texts_of, said_by}
use Rattle.pc_report.specs.declared.listing.TypeRow.{TypeRow}
use Rattle.pc_report.specs.TypeListing.{RowContent, content_of}
use Rattle.pc_report.specs.TypeTexts.{current_text}
use Rattle.pc_top.specs.DetailedTexts.{detail_in}
use Rattle.pc_top.specs.DetailsWithin.{told_within}
use Rattle.pc_top.specs.Headline.{Headline}
use Rattle.pc_top.specs.TypesOfBytes.{IsTypeAt}
use Rattle.pc_top.proofs.OneReport.{one_report}
use Rattle.pc_checked_session.proofs.OneTypeAt.{one_type_at}
use Rattle.pc_documents.specs.declared.checker.CheckOutcome.{CheckOutcome}
use Rattle.pc_documents.specs.declared.checker.CheckOutcome.TheVariants.{Items, Refused}
use Rattle.pc_documents.specs.CheckerAnswers.{outcome, type_shown}
use Rattle.pc_documents.specs.declared.checker.ReportedFinding.{ReportedFinding}
use Rattle.pc_session.specs.Exchanges.{IsDetermined, RepliesAreDetermined}
use Rattle.pc_documents.specs.Said.{said_by as said_by_found, SayTheSame}
use Rattle.pc_session.proofs.Determined.{determined}
use Rattle.pc_checked_session.specs.Found.{Said, shown, shown_flow, detail_said, said_with, said_by_item, said_by_row}
use Rattle.pc_checked_session.specs.Found.{said_by_rows, told_limit, told_of_rows, types_of_row, IsFoundIn, IsOutcomeOf}

some_inj : {A : Type 0} {x y : A} → Some x ≡ Some y → x ≡ y
some_inj e = grind arith

some_none : {A : Type 0} {x : A} → Some x ≡ None → ⊥
some_none e = grind arith

-- ---- types of rows

-- the current type of a content, behind its declared one
abbrev current_told : Option (List ℕ) → List ℕ
current_told None = []
current_told (Some type) = codes " = " ++ type

abbrev content_told : RowContent → List ℕ
content_told c = c.fact.type ++ current_told c.fact.current

current_same : (current : Option (RcStr Global)) → current_text current ≡ current_told (option_map rc_str_bytes current)
current_same None = refl
current_same (Some type) = refl

row_same : (row : TypeRow) → types_of_row row ≡ content_told (content_of row)
row_same row = ap (λ l. rc_str_bytes row.entry.text ++ l) (current_same row.entry.current)

-- rows with the same content have the same text
row_texts : (row other : Option TypeRow) → option_map content_of row ≡ option_map content_of other
    → option_map types_of_row row ≡ option_map types_of_row other
row_texts None None e = refl
row_texts None (Some s) e = absurd (some_none (sym e))
row_texts (Some r) None e = absurd (some_none e)
row_texts (Some r) (Some s) e =
    ap Some (row_same r ∙ (ap content_told (some_inj e) ∙ sym (row_same s)))

-- ---- rows

abbrev shown_texts : Option (List ℕ × List ℕ) → Option (List ℕ × List ℕ)
shown_texts None = None
shown_texts (Some texts) = shown texts.0 texts.1

shown_same : (flow : Option FlowTexts) → shown_flow flow ≡ shown_texts (option_map texts_of flow)
shown_same None = refl
shown_same (Some texts) = refl

-- a content with the detail that its finding is told
abbrev said_of : (Finding → Option (Detail Words)) → RowSays → Said
said_of told says = record {
  finding = says.finding;
  flow = shown_texts says.flow;
  detail = option_map (detail_said says.finding.code) (told says.finding);
}

said_alike : (row : Row) (detail : Option (List ℕ × List Place)) → said_with detail row
    ≡ record { finding = row.finding; flow = shown_texts (said_by row).flow; detail = detail }
said_alike row detail = ap (λ (t : Option (List ℕ × List ℕ)). record { finding = row.finding; flow = t; detail = detail })
    (shown_same (row_flow row))

rows_say : (told : Finding → Option (Detail Words)) (rows : List Row)
    → map (said_by_row told) rows ≡ map (said_of told) (map said_by rows)
rows_say told [] = refl
rows_say told (row ∷ rows) = ap₂ (λ x xs. x ∷ xs)
    (said_alike row (option_map (detail_said row.finding.code) (told row.finding))) (rows_say told rows)

-- rows say as much as there are of them
says_long : (rows : List Row) → length (map said_by rows) ≡ length rows
says_long [] = refl
says_long (row ∷ rows) = ap suc (says_long rows)

-- the content of the rows of a text, with the details that they are told
abbrev all_said : List ℕ → (Finding → Option (Detail Words)) → List RowSays → List Said
all_said text told says = map (said_of (told_within (told_limit text) (length says) told)) says

all_alike : (text : List ℕ) (told : Finding → Option (Detail Words)) (rows : List Row)
    → said_by_rows text told rows ≡ all_said text told (map said_by rows)
all_alike text told rows = rows_say (told_of_rows text rows told) rows
    ∙ ap (λ (n : ℕ). map (said_of (told_within (told_limit text) n told)) (map said_by rows)) (sym (says_long rows))

-- ---- items

abbrev parts_of : Said → Finding × Option (List ℕ × List ℕ) × Option (List ℕ × List Place)
parts_of said = (said.finding, said.flow, said.detail)

items_say : (items : List ReportedFinding) → map said_by_found items ≡ map parts_of (map said_by_item items)
items_say [] = refl
items_say (item ∷ items) = ap (λ xs. said_by_found item ∷ xs) (items_say items)

rows_same : (text : List ℕ) (rows others : List Row) (a : Headline text rows) (b : Headline text others)
    → said_by_rows text (detail_in a.whole) rows ≡ said_by_rows text (detail_in b.whole) others
rows_same text rows others a b =
    let told : Finding → Option (Detail Words) = detail_in a.whole in
    let module_same : b.whole ≡ a.whole = a.only b.whole b.spelled in
    all_alike text told rows
    ∙ (ap (all_said text told) (one_report text rows others a b)
    ∙ (sym (all_alike text told others)
    ∙ ap (λ (m : Module). said_by_rows text (detail_in m) others) (sym module_same)))

say_the_same : (text : List ℕ) (one other : CheckOutcome) → IsOutcomeOf text one → IsOutcomeOf text other
    → SayTheSame one other
say_the_same text (Items items) (Items others) a b =
    let same : map said_by_item items.items ≡ map said_by_item others.items =
    a.2 ∙ (rows_same text a.0 b.0 a.1 b.1 ∙ sym b.2) in
    items_say items.items ∙ (ap (map parts_of) same ∙ sym (items_say others.items))
say_the_same text (Items items) (Refused refusal) a b = no_refusal text a.1.whole refusal a.1.spelled b
say_the_same text (Refused refusal) (Items others) a b = no_refusal text b.1.whole refusal b.1.spelled a
say_the_same text (Refused refusal) (Refused other) a b = one_refusal text refusal other a b

-- ---- types

same_type : (text : List ℕ) (byte place : ℕ) (one other : Option (List ℕ)) → IsFoundIn text (type_shown byte one)
    → IsFoundIn text (type_shown place other) → byte ≡ place → one ≡ other
same_type text byte place one other (inl a) (inl b) e =
    let there : IsTypeAt text byte b.row = subst (λ (n : ℕ). IsTypeAt text n b.row) (sym e) b.is_there in
    a.are ∙ (row_texts a.row b.row (one_type_at text byte a.row b.row a.is_there there) ∙ sym b.are)
same_type text byte place one other (inl a) (inr b) e =
    absurd (no_refusal text a.is_there.lists.whole b.refusal a.is_there.lists.spelled b.refused)
same_type text byte place one other (inr a) (inl b) e =
    absurd (no_refusal text b.is_there.lists.whole a.refusal b.is_there.lists.spelled a.refused)
same_type text byte place one other (inr a) (inr b) e = a.none ∙ sym b.none

all_agree : IsDetermined IsFoundIn
all_agree text (outcome one) (outcome other) a b = say_the_same text one other a b
all_agree text (outcome one) (type_shown byte other) a b = tt
all_agree text (type_shown byte one) (outcome other) a b = tt
all_agree text (type_shown byte one) (type_shown place other) a b = same_type text byte place one other a b

pub replies_determined : RepliesAreDetermined IsFoundIn
replies_determined = determined IsFoundIn all_agree
