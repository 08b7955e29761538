use Rattle.std.proofs.Common.{map, ap, sym, ◌∙◌, subst, inl, option_map, string_bytes}
use Rattle.serde_json.specs.View.{view}
use Rattle.pc_tree.specs.Tree.{module_of}
use Rattle.pc_front.specs.Bytes.{IsModuleOf}
use Rattle.pc_documents.specs.Definitions.{definitions_in, AreDefinitions}
use Rattle.pc_documents.proofs.definitions.text_definitions.Goals as goal

pub returns-in_ok-found-in-Ok : goal.returns-in_ok-found-in-Ok
returns-in_ok-found-in-Ok c =
    let definitions = map view c.in_ok-found-in-Ok.found.items in
    let bytes = c.as_bytes-bytes.result.now in
    let tree = module_of c.in-Ok.module in
    subst (λ text. AreDefinitions c.args.encoding (option_map string_bytes text) c.args.uri.now c.args.position
    definitions) (sym c.in-Some.is) (inl (record {
      tree = tree;
      spelled = subst (λ b. IsModuleOf b tree) c.as_bytes-bytes.ensures.value c.in-Ok.ensures.read;
      are = c.in_ok-found-in-Ok.ensures
          ∙ ap (λ b. definitions_in c.args.encoding b c.args.uri.now c.args.position tree) c.as_bytes-bytes.ensures.value;
    }))
