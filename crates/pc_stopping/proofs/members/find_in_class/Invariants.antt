use Rattle.std.proofs.Common.{◌≡◌, ◌<◌, ◌++◌, [], length, map, drop, List}
use Rattle.pc_tree.specs.declared.code.Code.TheVariants.{E06}
use Rattle.pc_tree.specs.Tree.{member_of}
use Rattle.pc_tree.specs.Stopping.{HeldMember, clashes_among, own_members}
use Rattle.pc_tree.specs.Names.{texts_in}
use Rattle.pc_tree.specs.Code.{at_code}
use Rattle.pc_stopping.specs.Holdings.{HasIn, Keeps}
use Rattle.pc_stopping.proofs.Clashes.{Owns}
use Rattle.pc_stopping.proofs.members.find_in_class.Given as goal

abbrev pub invariant-loop-member : goal.invariant-loop-member
invariant-loop-member l = record {
  keeps : Keeps l.fn.holdings l.holdings;
  within : l.table < length l.holdings.tables;
  found : (hs : List HeldMember) → HasIn l.fn.holdings l.inherited hs
      → l.found.items ++ at_code E06 (clashes_among (texts_in l.before) hs
      (map member_of (drop l.member-index l.members))) ≡ l.fn.found.items ++ at_code E06
      (clashes_among [] hs (map member_of l.members));
  owns : (hs : List HeldMember) → HasIn l.fn.holdings l.inherited hs → Owns l.holdings l.table (texts_in l.before) hs
      (map member_of (drop l.member-index l.members)) (own_members [] hs (map member_of l.members));
}
