-- The result of checking a text, by what it says. Own rule of the server.
use Rattle.std.specs.Prelude.{◌≡◌, ℕ, List, map, Option, option_map, string_bytes}
use Rattle.pc_source.specs.declared.place.Place.{Place}
use Rattle.pc_tree.specs.declared.code.Finding.{Finding}
use Rattle.pc_documents.specs.declared.checker.CheckOutcome.{CheckOutcome}
use Rattle.pc_documents.specs.declared.checker.CheckOutcome.TheVariants.{Items, Refused}
use Rattle.pc_documents.specs.declared.checker.FlowTypes.{FlowTypes}
use Rattle.pc_documents.specs.declared.checker.ReportedFinding.{ReportedFinding}
use Rattle.pc_documents.specs.declared.checker.ToldDetail.{ToldDetail}

-- the texts of the two types of a flow
abbrev pub texts_of : FlowTypes → List ℕ × List ℕ
texts_of flow = (string_bytes flow.from, string_bytes flow.to)

-- the sentence of a detail, and the other places that it names
abbrev pub told_by : ToldDetail → List ℕ × List Place
told_by detail = (string_bytes detail.sentence, detail.others.items)

-- the content of an item: its finding, the texts of the two types of its flow and the content of its detail, if it has them
abbrev pub said_by : ReportedFinding → Finding × Option (List ℕ × List ℕ) × Option (List ℕ × List Place)
said_by item = (item.finding, option_map texts_of item.flow, option_map told_by item.detail)

-- two outcomes say the same: items with the same contents in the same order, or the same refusal
abbrev pub SayTheSame : CheckOutcome → CheckOutcome → Type 0
SayTheSame (Items items) (Items others) = map said_by items.items ≡ map said_by others.items
SayTheSame (Refused refusal) (Refused other) = refusal ≡ other
SayTheSame one other = ⊥
