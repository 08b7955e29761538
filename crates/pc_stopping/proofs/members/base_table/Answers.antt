use Rattle.std.proofs.Common.{◌∙◌, ap, sym, ℕ}
use Rattle.std.specs.Prelude.{Option, unwrap_or}
use Rattle.std.specs.Option.{option_copied}
use Rattle.pc_tree.specs.Tree.{option_name_of}
use Rattle.pc_tree.specs.Stopping.{option_text}
use Rattle.pc_tree.specs.declared.tree.Name.{Name as RustName}
use Rattle.pc_stopping.specs.Members.{base_at}
use Rattle.pc_stopping.proofs.members.base_table.Goals as goal

pub returns-in-Some-get : goal.returns-in-Some-get
returns-in-Some-get c =
    let found = sym (ap option_copied c.in-Some-get.is) ∙ rw c.as_str.ensures.value at c.get.ensures.value in
    ap (λ (o : Option ℕ). unwrap_or o 0) found
    ∙ sym (ap (λ (b : Option RustName). base_at c.args.bound.now (option_text (option_name_of b))) c.in-Some.is)
