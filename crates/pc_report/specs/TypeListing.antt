-- The listing of types: rows sorted, without repeats, with the lines and columns of their starts and ends; and the row
-- of the smallest place around a byte. Own rule of the profile.
use Rattle.std.specs.Prelude.{◌≡◌, ℕ, ◌-◌, ◌<◌, ◌≤◌, List, ◌∷◌, ◌++◌, ◌↔◌, map, Contains, Option, option_map, MatchOption}
use Rattle.std.specs.Rc.{rc_str_bytes}
use Rattle.std.specs.declared.cmp.Ordering.{Ordering}
use Rattle.std.specs.Ordering.{ordering_then, nat_cmp}
use Rattle.std.specs.Option.{option_cmp}
use Rattle.std.specs.Cmp.Lexicographic.{slice_cmp}
use Rattle.std.specs.List.{AllByRecursion}
use Rattle.std.specs.List.Sorted.{IsStrictlySortedBy}
use Rattle.pc_source.specs.declared.place.Place.{Place}
use Rattle.pc_source.specs.Lines.{line_of, column_of}
use Rattle.pc_report.specs.declared.listing.TypeKind.{TypeKind}
use Rattle.pc_report.specs.declared.listing.TypeKind.TheVariants.{Expression, Name}
use Rattle.pc_report.specs.declared.listing.TypeEntry.{TypeEntry}
use Rattle.pc_report.specs.declared.listing.TypeRow.{TypeRow}
use Rattle.pc_report.specs.Flows.{place_cmp}

-- a fact of a listing: a place, whether an expression or a name is there, the text of its type, and for a name the text
-- of its current type, if that is another
pub record TypeFact : Type 0 where
  pub place : Place
  pub kind : TypeKind
  pub type : List ℕ
  pub current : Option (List ℕ)

-- the fact of an entry
abbrev pub fact_of : TypeEntry → TypeFact
fact_of e = record {
  place = e.place;
  kind = e.kind;
  type = rc_str_bytes e.text;
  current = option_map rc_str_bytes e.current;
}

-- the facts of rows, in their order
abbrev pub row_facts : List TypeRow → List TypeFact
row_facts rows = map (λ row. fact_of row.entry) rows

-- the content of a row: its fact, and the lines and columns of its start and its end
pub record RowContent : Type 0 where
  pub fact : TypeFact
  pub line : ℕ
  pub column : ℕ
  pub end_line : ℕ
  pub end_column : ℕ

-- the content of this row
abbrev pub content_of : TypeRow → RowContent
content_of row = record {
  fact = fact_of row.entry;
  line = row.line;
  column = row.column;
  end_line = row.end_line;
  end_column = row.end_column;
}

-- expressions are ordered before names
abbrev pub kind_number : TypeKind → ℕ
kind_number Expression = 0
kind_number Name = 1

-- the order of facts: by start, by end, by kind, and by the texts
abbrev pub fact_cmp : TypeFact → TypeFact → Ordering
fact_cmp f g = ordering_then (place_cmp f.place g.place)
    (ordering_then (nat_cmp (kind_number f.kind) (kind_number g.kind))
    (ordering_then (slice_cmp nat_cmp f.type g.type) (option_cmp (slice_cmp nat_cmp) f.current g.current)))

-- a row has the line and the column of its start, and those of its end
abbrev pub HasPosition : List ℕ → TypeRow → Type 0
HasPosition source row = (row.line ≡ line_of source row.entry.place.start)
    × (row.column ≡ column_of source row.entry.place.start)
    × (row.end_line ≡ line_of source row.entry.place.end)
    × (row.end_column ≡ column_of source row.entry.place.end)

-- the facts of the rows are exactly those that satisfy P, in order, none twice
pub record ListsTypes (source : List ℕ) (P : TypeFact → Type 0) (rows : List TypeRow) : Type 0 where
  pub sorted : IsStrictlySortedBy fact_cmp (row_facts rows)
  pub exact : (f : TypeFact) → Contains (row_facts rows) f ↔ P f
  pub placed : AllByRecursion (HasPosition source) rows

-- ---- the smallest place around a byte

-- a byte is in a place, or just after it
abbrev pub IsAround : ℕ → Place → Type 0
IsAround byte place = (place.start ≤ byte) × (byte ≤ place.end)

-- the number of bytes of a place
abbrev pub bytes_in : Place → ℕ
bytes_in place = place.end - place.start

-- the row is the first of those with the smallest place around the byte: each row before it has a longer place, and
-- none after it has a shorter one
pub record IsSmallest (byte : ℕ) (rows : List TypeRow) (row : TypeRow) : Type 0 where
  pub before : List TypeRow
  pub behind : List TypeRow
  pub order : rows ≡ before ++ (row ∷ behind)
  pub around : IsAround byte row.entry.place
  pub longer : (other : TypeRow) → Contains before other → IsAround byte other.entry.place
      → bytes_in row.entry.place < bytes_in other.entry.place
  pub not_shorter : (other : TypeRow) → Contains behind other → IsAround byte other.entry.place
      → bytes_in row.entry.place ≤ bytes_in other.entry.place

-- the row found for a byte is that with the smallest place around it, or none if no place is around the byte
abbrev pub IsSmallestAt : ℕ → List TypeRow → Option TypeRow → Type 0
IsSmallestAt byte rows found =
    MatchOption found ((row : TypeRow) → Contains rows row → ¬ (IsAround byte row.entry.place))
    (IsSmallest byte rows)
