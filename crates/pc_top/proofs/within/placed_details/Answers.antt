use Rattle.std.proofs.Common.{◌≡◌, ◌∙◌, List, ap, map, subst, sym}
use Rattle.std.proofs.lemmas.Result.{IfOk-weaker}
use Rattle.std.specs.List.{AllByRecursion}
use Rattle.std.specs.Prelude.{Vec}
use Rattle.std.specs.declared.alloc.Global.{Global}
use Rattle.pc_tree.specs.Tree.{module_of}
use Rattle.pc_details.specs.declared.explained.DetailedFinding.{DetailedFinding}
use Rattle.pc_details.specs.Listed.{listed_of}
use Rattle.pc_top.specs.declared.detailed.PlacedDetail.{PlacedDetail}
use Rattle.pc_top.specs.DetailedBytes.{ExplainsFinding, details_in}
use Rattle.pc_top.proofs.within.placed_details.Goals as goal

abbrev detail_of : PlacedDetail → DetailedFinding
detail_of p = p.detailed

pub returns-clause-right : goal.returns-clause-right
returns-clause-right c =
    let m = module_of c.args.module.now in
    IfOk-weaker c.placed.result _ _ (λ v same. subst (λ (ds : List DetailedFinding).
    AllByRecursion (ExplainsFinding m c.args.found.now) ds) (sym same) c.in_ok-details.ensures.right)
    c.placed.ensures.details

pub returns-clause-whole : goal.returns-clause-whole
returns-clause-whole c = λ apart.
    let m = module_of c.args.module.now in
    let details : List DetailedFinding = c.in_ok-details.details.items in
    let were = λ (v : Vec PlacedDetail Global). map detail_of v.items ≡ details in
    let are = λ (v : Vec PlacedDetail Global). map listed_of (map detail_of v.items) ≡ details_in m c.args.found.now in
    IfOk-weaker c.placed.result were are (λ v same. ap (map listed_of) same ∙ c.in_ok-details.ensures.whole apart)
    c.placed.ensures.details
