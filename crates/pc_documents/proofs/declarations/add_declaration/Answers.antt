use Rattle.std.proofs.Common.{refl, inl}
use Rattle.pc_tree.specs.Tree.{module_of}
use Rattle.pc_documents.specs.Declarations.{declaration_in}
use Rattle.pc_documents.proofs.declarations.add_declaration.Goals as goal

pub returns-in_ok-add_declaration_in-in-Ok : goal.returns-in_ok-add_declaration_in-in-Ok
returns-in_ok-add_declaration_in-in-Ok c =
    let tree = module_of c.in-Ok.module in
    record {
      declaration = declaration_in c.args.encoding c.args.text.now c.args.position tree;
      declares_it = inl (record { tree = tree; spelled = c.in-Ok.ensures.read; is = refl });
      are = c.in_ok-add_declaration_in-in-Ok.ensures;
    }
