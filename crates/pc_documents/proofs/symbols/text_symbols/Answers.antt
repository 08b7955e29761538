use Rattle.std.proofs.Common.{map, ap, sym, ◌∙◌, subst, inl, option_map, string_bytes}
use Rattle.serde_json.specs.View.{view}
use Rattle.pc_tree.specs.Tree.{module_of}
use Rattle.pc_front.specs.Bytes.{IsModuleOf}
use Rattle.pc_documents.specs.Symbols.{shown_item, AreSymbols}
use Rattle.pc_documents.proofs.Listing.{items_listed}
use Rattle.pc_documents.proofs.symbols.text_symbols.Goals as goal

pub returns-in_ok-item_symbols-in-Ok : goal.returns-in_ok-item_symbols-in-Ok
returns-in_ok-item_symbols-in-Ok c =
    let symbols = map view c.in_ok-item_symbols-in-Ok.field-0.items in
    let bytes = c.as_bytes-bytes.result.now in
    let program = c.in-Ok.module in
    subst (λ text. AreSymbols c.args.encoding (option_map string_bytes text) symbols) (sym c.in-Some.is) (inl (record {
      tree = module_of program;
      spelled = subst (λ b. IsModuleOf b (module_of program)) c.as_bytes-bytes.ensures.value c.in-Ok.ensures.read;
      are = c.in_ok-item_symbols-in-Ok.ensures
          ∙ (ap (map (shown_item c.args.encoding bytes)) c.deref.ensures.value
          ∙ (ap (λ b. map (shown_item c.args.encoding b) program.items.items) c.as_bytes-bytes.ensures.value
          ∙ items_listed c.args.encoding _ program.items.items));
    }))
