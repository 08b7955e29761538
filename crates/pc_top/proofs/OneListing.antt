-- Two listings of the types of the same bytes have the same content and are written in one way.
use Rattle.std.proofs.Common.{ℕ, List, subst}
use Rattle.pc_tree.specs.Tree.{Module}
use Rattle.pc_report.specs.declared.listing.TypeRow.{TypeRow}
use Rattle.pc_report.specs.TypeListing.{ListsTypes}
use Rattle.pc_report.proofs.OneTypeListing.{one_content, one_json, one_text}
use Rattle.pc_top.specs.OneListing.{OneListing, OneListingText}
use Rattle.pc_top.specs.TypesOfBytes.{IsTypeFact, ListsTypesOf}

listed : (bytes : List ℕ) (rows others : List TypeRow) (a : ListsTypesOf bytes rows) (b : ListsTypesOf bytes others)
    → ListsTypes bytes (IsTypeFact a.whole) others
listed bytes rows others a b = subst (λ (m : Module). ListsTypes bytes (IsTypeFact m) others)
    (a.only b.whole b.spelled) b.listed

pub one_listing : OneListing
one_listing bytes rows others a b = one_content bytes (IsTypeFact a.whole) rows others a.listed
    (listed bytes rows others a b)

pub one_listing_text : OneListingText
one_listing_text bytes rows others a b =
    let same = one_listing bytes rows others a b in
    (one_text rows others same, one_json rows others same)
