-- Rows that list the same types of a source have the same content, and are written in one way.
use Rattle.std.proofs.Common.{◌≡◌, ℕ, List, [], ◌∷◌, ◌++◌, Option, Some, None, refl, sym, ap, ◌∙◌, get_or, drop, Contains}
use Rattle.std.proofs.Common.{Bool, true, false}
use Rattle.std.specs.Prelude.{◌↔◌, map, option_map, codes, decimal, IsTrue}
use Rattle.std.specs.Rc.{rc_str_bytes}
use Rattle.std.specs.declared.rc.RcStr.{RcStr}
use Rattle.std.specs.declared.alloc.Global.{Global}
use Rattle.std.specs.List.{AllByRecursion, flat_map}
use Rattle.std.specs.List.Sorted.{IsStrictlySortedBy}
use Rattle.std.specs.Cmp.{IsTotalOrder}
use Rattle.std.specs.Cmp.Lexicographic.{options_total}
use Rattle.std.proofs.lemmas.Cmp.{then_total, on_total, nat_cmp_total, nat_list_cmp_total}
use Rattle.std.proofs.lemmas.Map.Lookups.{btree_set_from_contains, CmpEqualImpliesEq}
use Rattle.std.proofs.lemmas.Map.Views.{btree_set_contains_iff}
use Rattle.json.specs.Print.{quoted}
use Rattle.pc_source.specs.Lines.{line_of, column_of}
use Rattle.pc_report.specs.declared.listing.TypeRow.{TypeRow}
use Rattle.pc_report.specs.TypeListing.{TypeFact, RowContent, HasPosition, ListsTypes, content_of, fact_of, fact_cmp}
use Rattle.pc_report.specs.TypeListing.{kind_number, row_facts}
use Rattle.pc_report.specs.TypeTexts.{current_text, type_row_text, types_text, kind_text, current_json}
use Rattle.pc_report.specs.TypeTexts.{type_row_json, type_rows_json, types_json}
use Rattle.pc_report.proofs.OneListing.{truths}
use Rattle.pc_report.proofs.TypeOrder.{equal_facts}

-- ---- facts in order are determined by their set

fact_total : IsTotalOrder fact_cmp
fact_total = then_total
    (then_total (on_total (λ (f : TypeFact). f.place.start) nat_cmp_total)
    (on_total (λ (f : TypeFact). f.place.end) nat_cmp_total))
    (then_total (on_total (λ (f : TypeFact). kind_number f.kind) nat_cmp_total)
    (then_total (on_total (λ (f : TypeFact). f.type) nat_list_cmp_total)
    (on_total (λ (f : TypeFact). f.current) (options_total nat_list_cmp_total))))

exact : CmpEqualImpliesEq fact_cmp
exact f g h = equal_facts f g h

one_order : (fs gs : List TypeFact) → IsStrictlySortedBy fact_cmp fs → IsStrictlySortedBy fact_cmp gs
    → ((f : TypeFact) → Contains fs f → Contains gs f) → ((f : TypeFact) → Contains gs f → Contains fs f) → fs ≡ gs
one_order fs gs a b into back = btree_set_from_contains fact_total (record { keys = fs }) (record { keys = gs }) a b
    (λ q.
    let left = btree_set_contains_iff fact_total exact (record { keys = fs }) q in
    let right = btree_set_contains_iff fact_total exact (record { keys = gs }) q in
    truths _ _ (λ t. right.1 (into q (left.0 t))) (λ t. left.1 (back q (right.0 t))))
    exact

-- ---- rows with the same facts, one beside the other

same_content : (source : List ℕ) (rows others : List TypeRow) → row_facts rows ≡ row_facts others
    → AllByRecursion (HasPosition source) rows → AllByRecursion (HasPosition source) others
    → map content_of rows ≡ map content_of others
same_content source [] [] e p q = refl
same_content source [] (o ∷ os) e p q = cc
same_content source (r ∷ rs) [] e p q = cc
same_content source (r ∷ rs) (o ∷ os) e p q =
    let fact : fact_of r.entry ≡ fact_of o.entry = ap (λ (l : List TypeFact). get_or l 0 (fact_of r.entry)) e in
    let line : r.line ≡ o.line = p.0.0 ∙ ap (λ (f : TypeFact). line_of source f.place.start) fact ∙ sym q.0.0 in
    let column : r.column ≡ o.column = p.0.1 ∙ ap (λ (f : TypeFact). column_of source f.place.start) fact
    ∙ sym q.0.1 in
    let end_line : r.end_line ≡ o.end_line = p.0.2 ∙ ap (λ (f : TypeFact). line_of source f.place.end) fact
    ∙ sym q.0.2 in
    let end_column : r.end_column ≡ o.end_column = p.0.3
    ∙ ap (λ (f : TypeFact). column_of source f.place.end) fact ∙ sym q.0.3 in
    let rest = same_content source rs os (ap (λ (l : List TypeFact). drop 1 l) e) p.1 q.1 in
    λ i. record {
      fact = fact i;
      line = line i;
      column = column i;
      end_line = end_line i;
      end_column = end_column i;
    } ∷ rest i

-- rows that list the types of a source that satisfy P have the same content
pub one_content : (source : List ℕ) (P : TypeFact → Type 0) (rows others : List TypeRow) → ListsTypes source P rows
    → ListsTypes source P others → map content_of rows ≡ map content_of others
one_content source P rows others a b = same_content source rows others
    (one_order (row_facts rows) (row_facts others) a.sorted b.sorted (λ f c. (b.exact f).1 ((a.exact f).0 c))
    (λ f c. (a.exact f).1 ((b.exact f).0 c)))
    a.placed b.placed

-- ---- the text of rows is that of their content

shown : Option (List ℕ) → List ℕ
shown None = []
shown (Some t) = codes " = " ++ t

is_shown : (current : Option (RcStr Global)) → current_text current ≡ shown (option_map rc_str_bytes current)
unfolding shown
is_shown None = refl
is_shown (Some t) = refl

line_of_content : RowContent → List ℕ
line_of_content c = decimal c.line
    ++ (58 ∷ (decimal c.column
    ++ (45 ∷ (decimal c.end_line
    ++ (58 ∷ (decimal c.end_column ++ (32 ∷ (c.fact.type ++ shown c.fact.current))))))))

is_line : (row : TypeRow) → type_row_text row ≡ line_of_content (content_of row)
unfolding line_of_content
is_line row = λ i. decimal row.line
    ++ (58 ∷ (decimal row.column
    ++ (45 ∷ (decimal row.end_line
    ++ (58 ∷ (decimal row.end_column ++ (32 ∷ (rc_str_bytes row.entry.text ++ is_shown row.entry.current i))))))))

are_lines : (rows : List TypeRow)
    → types_text rows ≡ flat_map (λ (c : RowContent). line_of_content c ++ 10 ∷ []) (map content_of rows)
are_lines [] = refl
are_lines (row ∷ rows) = λ i. (is_line row i ++ 10 ∷ []) ++ are_lines rows i

-- rows of the same content have the same text
pub one_text : (rows others : List TypeRow) → map content_of rows ≡ map content_of others
    → types_text rows ≡ types_text others
one_text rows others e = are_lines rows
    ∙ ap (flat_map (λ (c : RowContent). line_of_content c ++ 10 ∷ [])) e ∙ sym (are_lines others)

-- ---- the JSON of rows is that of their content

member : Option (List ℕ) → List ℕ
member None = []
member (Some t) = codes ",\"current\":" ++ quoted t

is_member : (current : Option (RcStr Global)) → current_json current ≡ member (option_map rc_str_bytes current)
unfolding member
is_member None = refl
is_member (Some t) = refl

object_of : RowContent → List ℕ
object_of c = codes "{\"column\":"
    ++ (decimal c.column
    ++ (member c.fact.current ++ (codes ",\"end\":" ++ (decimal c.fact.place.end
    ++ (codes ",\"end_column\":" ++ (decimal c.end_column
    ++ (codes ",\"end_line\":" ++ (decimal c.end_line
    ++ (codes ",\"kind\":\"" ++ (kind_text c.fact.kind
    ++ (codes "\",\"line\":" ++ (decimal c.line
    ++ (codes ",\"start\":" ++ (decimal c.fact.place.start
    ++ (codes ",\"type\":" ++ (quoted c.fact.type ++ codes "}"))))))))))))))))

is_object : (row : TypeRow) → type_row_json row ≡ object_of (content_of row)
unfolding object_of
is_object row = λ i. codes "{\"column\":"
    ++ (decimal row.column
    ++ (is_member row.entry.current i ++ (codes ",\"end\":" ++ (decimal row.entry.place.end
    ++ (codes ",\"end_column\":" ++ (decimal row.end_column
    ++ (codes ",\"end_line\":" ++ (decimal row.end_line
    ++ (codes ",\"kind\":\"" ++ (kind_text row.entry.kind
    ++ (codes "\",\"line\":" ++ (decimal row.line
    ++ (codes ",\"start\":" ++ (decimal row.entry.place.start
    ++ (codes ",\"type\":" ++ (quoted (rc_str_bytes row.entry.text) ++ codes "}"))))))))))))))))

objects_of : List RowContent → List ℕ
objects_of [] = []
objects_of (c ∷ []) = object_of c
objects_of (c ∷ next ∷ rows) = object_of c ++ (44 ∷ objects_of (next ∷ rows))

are_objects : (rows : List TypeRow) → type_rows_json rows ≡ objects_of (map content_of rows)
unfolding objects_of
are_objects [] = refl
are_objects (row ∷ []) = is_object row
are_objects (row ∷ next ∷ rows) = λ i. is_object row i ++ (44 ∷ are_objects (next ∷ rows) i)

-- rows of the same content have the same JSON
pub one_json : (rows others : List TypeRow) → map content_of rows ≡ map content_of others
    → types_json rows ≡ types_json others
one_json rows others e =
    let objects : type_rows_json rows ≡ type_rows_json others = are_objects rows ∙ ap objects_of e
    ∙ sym (are_objects others) in
    ap (λ (l : List ℕ). codes "{\"types\":[" ++ (l ++ codes "]}\n")) objects
