-- Lists of the parser, as they keep the parts of a bracket.
use Rattle.std.specs.Prelude.{◌≡◌, ◌≤◌, min}
use Rattle.pc_tree.specs.Tree.{Exprs, Entries as EntryTrees, Keywords as KeywordTrees}
use Rattle.pc_tree.specs.Depth.{depth_over, depth_over_entries, depth_over_keywords}
use Rattle.pc_tree.specs.Lists.{exprs_of_list, entries_of_list, keywords_of_list}
use Rattle.pc_reader.specs.declared.items.Items.{Items}
use Rattle.pc_reader.specs.declared.items.Entries.{Entries}
use Rattle.pc_reader.specs.declared.items.Keywords.{Keywords}

-- the list keeps these expressions, unless a node over them would be too deep
pub record KeepsItems (i : Items) (es : Exprs) : Type 0 where
  pub depth : i.depth ≡ min 65 (depth_over es)
  pub kept : i.depth ≤ 64 → exprs_of_list i.exprs.items ≡ es

-- the list keeps these keys and values, unless a node over them would be too deep
pub record KeepsEntries (i : Entries) (es : EntryTrees) : Type 0 where
  pub depth : i.depth ≡ min 65 (depth_over_entries es)
  pub kept : i.depth ≤ 64 → entries_of_list i.entries.items ≡ es

-- the list keeps these arguments by name, unless a node over them would be too deep
pub record KeepsKeywords (i : Keywords) (ks : KeywordTrees) : Type 0 where
  pub depth : i.depth ≡ min 65 (depth_over_keywords ks)
  pub kept : i.depth ≤ 64 → keywords_of_list i.arguments.items ≡ ks
