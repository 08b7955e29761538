use Rattle.std.proofs.Common.{◌∙◌, ap, sym, List, ℕ}
use Rattle.std.specs.Prelude.{string_bytes, bytes_eq}
use Rattle.std.specs.Map.{lookup}
use Rattle.pc_tree.specs.Names.{first_of, bound_as}
use Rattle.pc_tree.proofs.InMaps.{put_new, none_at}
use Rattle.pc_scope.specs.Internal.WalkViews.{at_text}
use Rattle.pc_scope.proofs.globals.bind_first.Goals as goal

pub returns : goal.returns
returns c text =
    let old = c.args.globals.now.entries in
    let key = c.in_ok-from_str.field-0 in
    let same = c.in_ok-from_str.ensures.ok in
    let absent = none_at (lookup (λ k. bytes_eq c.args.name.now (string_bytes k)) old) (sym c.contains_key.ensures
    ∙ c.if-contains_key.false) in
    ap (lookup (λ k. bytes_eq text (string_bytes k))) c.in_ok-insert.ensures.entries
    ∙ put_new string_bytes old key c.args.meaning text
    (ap (λ (t : List ℕ). lookup (λ k. bytes_eq t (string_bytes k)) old) same ∙ absent)
    ∙ ap (λ (t : List ℕ). first_of (at_text c.args.globals.now text) (bound_as t c.args.meaning text)) same
