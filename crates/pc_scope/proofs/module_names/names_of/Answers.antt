use Rattle.std.proofs.Common.{◌∙◌, sym}
use Rattle.std.specs.Prelude.{string_bytes}
use Rattle.pc_scope.proofs.TextMaps.{beside_entry}
use Rattle.pc_scope.proofs.module_names.names_of.Goals as goal

pub returns : goal.returns
returns c = record {
  tables = record {
    globals = λ text. sym (beside_entry string_bytes text c.in_ok-globals.globals.entries)
        ∙ (rw c.deref.ensures.value at c.in_ok-globals.ensures) text;
    functions = rw c.deref-2.ensures.value at c.in_ok-functions.ensures;
    methods = rw c.deref-3.ensures.value at c.in_ok-methods.ensures;
  };
}
