use Rattle.std.proofs.Common.{◌≡◌, ◌∙◌, List, ap, map}
use Rattle.std.proofs.lemmas.Result.{IfOk-weaker}
use Rattle.std.specs.Prelude.{Vec}
use Rattle.std.specs.declared.alloc.Global.{Global}
use Rattle.pc_tree.specs.Tree.{module_of}
use Rattle.pc_notes.specs.Notes.{Note, notes_of}
use Rattle.pc_details.specs.declared.explained.DetailedFinding.{DetailedFinding}
use Rattle.pc_details.specs.Listed.{details_told, listed_of}
use Rattle.pc_top.specs.DetailedBytes.{details_in}
use Rattle.pc_top.proofs.ExplainedFindings.{all_explained}
use Rattle.pc_top.proofs.detailed.module_details.Goals as goal

pub returns-clause-right : goal.returns-clause-right
returns-clause-right c = IfOk-weaker c.noted_details.result _ _ (λ v all. all_explained (module_of c.args.module.now)
    c.args.found.now (notes_of c.in_ok-notes.notes) c.in_ok-notes.ensures v.items all) c.noted_details.ensures.right

pub returns-clause-whole : goal.returns-clause-whole
returns-clause-whole c = λ distinct.
    let m = module_of c.args.module.now in
    let found = c.args.found.now in
    let notes = notes_of c.in_ok-notes.notes in
    let were = λ (v : Vec DetailedFinding Global). map listed_of v.items ≡ details_told m notes found in
    let are = λ (v : Vec DetailedFinding Global). map listed_of v.items ≡ details_in m found in
    IfOk-weaker c.noted_details.result were are (λ v same. same
    ∙ ap (λ (l : List Note). details_told m l found) c.in_ok-notes.ensures) (c.noted_details.ensures.whole distinct)
