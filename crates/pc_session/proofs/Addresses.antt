-- The addresses of open documents.
use Rattle.std.specs.List.{AllByRecursion}
use Rattle.std.specs.Prelude.{find, is_some, bytes_eq}
use Rattle.std.proofs.Common.{◌≡◌, ℕ, Bool, true, false, cond, List, [], ◌∷◌, map, None, Some, refl, sym, ap, ◌∙◌}
use Rattle.std.proofs.Common.{subst, true≢false}
use Rattle.std.proofs.lemmas.Slice.Eq.{bytes_eq-Decides}
use Rattle.pc_documents.specs.Documents.{has_uri, is_open, with_document, without_document, forgotten, OpenDocument}
use Rattle.pc_session.specs.Shown.{AreDistinct}

-- ---- addresses

pub same : (a b : List ℕ) → bytes_eq a b ≡ true → a ≡ b
same a b e = (bytes_eq-Decides a b).0 e

pub own : (a : List ℕ) → bytes_eq a a ≡ true
own a = (bytes_eq-Decides a a).1 refl

-- two addresses that differ do so in either order
pub flip : (a b : List ℕ) → bytes_eq a b ≡ false → bytes_eq b a ≡ false
flip a b e =
    let go : (t : Bool) → bytes_eq b a ≡ t → t ≡ false = λ t. elim t as (λ t. bytes_eq b a ≡ t → t ≡ false) [
      | true ↦ λ h. absurd (true≢false (sym ((bytes_eq-Decides a b).1 (sym (same b a h))) ∙ e))
      | false ↦ λ h. refl
    ] in
    go (bytes_eq b a) refl

-- ---- open documents

-- where none of the documents has an address, each has another one
pub all_closed : (P Q : OpenDocument → Type 0) (uri : List ℕ) (documents : List OpenDocument)
    → is_open uri documents ≡ false → ((d : OpenDocument) → has_uri uri d ≡ false → P d → Q d)
    → AllByRecursion P documents → AllByRecursion Q documents
all_closed P Q uri [] closed each all = tt
all_closed P Q uri (d ∷ ds) closed each all =
    let M = λ (t : Bool). has_uri uri d ≡ t → is_some (cond t (Some d) (find (has_uri uri) ds)) ≡ false
    → Q d × AllByRecursion Q ds in
    elim (has_uri uri d) as M [
      | true ↦ λ e c. absurd (true≢false c)
      | false ↦ λ e c. (each d e all.0, all_closed P Q uri ds c each all.1)
    ] refl closed

-- each of the documents with another in its place, or at the end
pub all_with : (P Q : OpenDocument → Type 0) (document : OpenDocument) (documents : List OpenDocument)
    → AreDistinct documents → Q document → ((d : OpenDocument) → has_uri document.uri d ≡ false → P d → Q d)
    → AllByRecursion P documents → AllByRecursion Q (with_document document documents)
all_with P Q document [] distinct is each all = (is, tt)
all_with P Q document (other ∷ others) distinct is each all =
    let M = λ (t : Bool). has_uri document.uri other ≡ t → AllByRecursion Q
    (cond t (document ∷ others) (other ∷ with_document document others)) in
    elim (has_uri document.uri other) as M [
      | true ↦ λ e.
          let closed : is_open document.uri others ≡ false =
          subst (λ u. is_open u others ≡ false) (same other.uri document.uri e) distinct.0 in
          (is, all_closed P Q document.uri others closed each all.1)
      | false ↦ λ e. (each other e all.0, all_with P Q document others distinct.1 is each all.1)
    ] refl

-- each of the documents but the one that is closed
pub all_without : (P Q : OpenDocument → Type 0) (uri : List ℕ) (documents : List OpenDocument) → AreDistinct documents
    → ((d : OpenDocument) → has_uri uri d ≡ false → P d → Q d) → AllByRecursion P documents
    → AllByRecursion Q (without_document uri documents)
all_without P Q uri [] distinct each all = tt
all_without P Q uri (other ∷ others) distinct each all =
    let M = λ (t : Bool). has_uri uri other ≡ t → AllByRecursion Q
    (cond t others (other ∷ without_document uri others)) in
    elim (has_uri uri other) as M [
      | true ↦ λ e.
          let closed : is_open uri others ≡ false =
          subst (λ u. is_open u others ≡ false) (same other.uri uri e) distinct.0 in
          all_closed P Q uri others closed each all.1
      | false ↦ λ e. (each other e all.0, all_without P Q uri others distinct.1 each all.1)
    ] refl

-- an address that no document has, and not this one either
pub closed_with : (uri : List ℕ) (document : OpenDocument) (documents : List OpenDocument) → has_uri uri document ≡ false
    → is_open uri documents ≡ false → is_open uri (with_document document documents) ≡ false
closed_with uri document [] apart closed = ap (λ t. is_some (cond t (Some document) None)) apart
closed_with uri document (other ∷ others) apart closed =
    let K = λ (t : Bool). is_some (cond t (Some other) (find (has_uri uri) others)) ≡ false
    → has_uri uri other ≡ t → is_open uri (with_document document (other ∷ others)) ≡ false in
    elim (has_uri uri other) as K [
      | true ↦ λ c e. absurd (true≢false c)
      | false ↦ λ c e.
          let M = λ (t : Bool). is_open uri (cond t (document ∷ others) (other ∷ with_document document others)) ≡ false in
          elim (has_uri document.uri other) as M [
            | true ↦ ap (λ t. is_some (cond t (Some document) (find (has_uri uri) others))) apart ∙ c
            | false ↦ ap (λ t. is_some (cond t (Some other) (find (has_uri uri) (with_document document others)))) e
                ∙ closed_with uri document others apart c
          ]
    ] closed refl

-- the same the other way round
pub with_closed : (uri : List ℕ) (document : OpenDocument) (documents : List OpenDocument)
    → is_open uri (with_document document documents) ≡ false
    → (has_uri uri document ≡ false) × (is_open uri documents ≡ false)
with_closed uri document [] closed =
    let M = λ (t : Bool). has_uri uri document ≡ t → is_some (cond t (Some document) None) ≡ false
    → (has_uri uri document ≡ false) × (is_open uri [] ≡ false) in
    elim (has_uri uri document) as M [ true ↦ λ e c. absurd (true≢false c) | false ↦ λ e c. (e, refl) ] refl closed
with_closed uri document (other ∷ others) closed =
    let Both = (has_uri uri document ≡ false) × (is_open uri (other ∷ others) ≡ false) in
    let here : (t : Bool) → has_uri uri other ≡ false → is_open uri others ≡ false → is_open uri (other ∷ others) ≡ false
    = λ t e c. ap (λ t. is_some (cond t (Some other) (find (has_uri uri) others))) e ∙ c in
    let M = λ (t : Bool). has_uri document.uri other ≡ t
    → is_open uri (cond t (document ∷ others) (other ∷ with_document document others)) ≡ false → Both in
    elim (has_uri document.uri other) as M [
      | true ↦ λ e c.
          let K = λ (t : Bool). has_uri uri document ≡ t
          → is_some (cond t (Some document) (find (has_uri uri) others)) ≡ false → Both in
          elim (has_uri uri document) as K [
            | true ↦ λ k d. absurd (true≢false d)
            | false ↦ λ k d.
                let apart : has_uri uri other ≡ false =
                ap (λ u. bytes_eq u uri) (same other.uri document.uri e) ∙ k in
                (k, here true apart d)
          ] refl c
      | false ↦ λ e c.
          let K = λ (t : Bool). has_uri uri other ≡ t
          → is_some (cond t (Some other) (find (has_uri uri) (with_document document others))) ≡ false → Both in
          elim (has_uri uri other) as K [
            | true ↦ λ k d. absurd (true≢false d)
            | false ↦ λ k d. let rest = with_closed uri document others d in (rest.0, here true k rest.1)
          ] refl c
    ] refl closed

-- an address that no document has is not open without another one
pub closed_without : (uri closing : List ℕ) (documents : List OpenDocument) → is_open uri documents ≡ false
    → is_open uri (without_document closing documents) ≡ false
closed_without uri closing [] closed = refl
closed_without uri closing (other ∷ others) closed =
    let K = λ (t : Bool). has_uri uri other ≡ t → is_some (cond t (Some other) (find (has_uri uri) others)) ≡ false
    → is_open uri (without_document closing (other ∷ others)) ≡ false in
    elim (has_uri uri other) as K [
      | true ↦ λ e c. absurd (true≢false c)
      | false ↦ λ e c.
          let M = λ (t : Bool). is_open uri (cond t others (other ∷ without_document closing others)) ≡ false in
          elim (has_uri closing other) as M [
            | true ↦ c
            | false ↦ ap (λ t. is_some (cond t (Some other) (find (has_uri uri) (without_document closing others)))) e
                ∙ closed_without uri closing others c
          ]
    ] refl closed

-- an address other than the one that is closed
pub without_closed : (uri closing : List ℕ) (documents : List OpenDocument) → bytes_eq closing uri ≡ false
    → is_open uri (without_document closing documents) ≡ false → is_open uri documents ≡ false
without_closed uri closing [] apart closed = refl
without_closed uri closing (other ∷ others) apart closed =
    let M = λ (t : Bool). has_uri closing other ≡ t
    → is_open uri (cond t others (other ∷ without_document closing others)) ≡ false
    → is_open uri (other ∷ others) ≡ false in
    elim (has_uri closing other) as M [
      | true ↦ λ e c.
          let differs : has_uri uri other ≡ false = ap (λ u. bytes_eq u uri) (same other.uri closing e) ∙ apart in
          ap (λ t. is_some (cond t (Some other) (find (has_uri uri) others))) differs ∙ c
      | false ↦ λ e c.
          let K = λ (t : Bool). has_uri uri other ≡ t
          → is_some (cond t (Some other) (find (has_uri uri) (without_document closing others))) ≡ false
          → is_some (cond t (Some other) (find (has_uri uri) others)) ≡ false in
          elim (has_uri uri other) as K [
            | true ↦ λ k d. absurd (true≢false d)
            | false ↦ λ k d. without_closed uri closing others apart d
          ] refl c
    ] refl closed

pub distinct_with : (document : OpenDocument) (documents : List OpenDocument) → AreDistinct documents
    → AreDistinct (with_document document documents)
distinct_with document [] distinct = (refl, tt)
distinct_with document (other ∷ others) distinct =
    let M = λ (t : Bool). has_uri document.uri other ≡ t
    → AreDistinct (cond t (document ∷ others) (other ∷ with_document document others)) in
    elim (has_uri document.uri other) as M [
      | true ↦ λ e. (subst (λ u. is_open u others ≡ false) (same other.uri document.uri e) distinct.0, distinct.1)
      | false ↦ λ e. (
        closed_with other.uri document others (flip other.uri document.uri e) distinct.0,
        distinct_with document others distinct.1,
      )
    ] refl

pub distinct_without : (uri : List ℕ) (documents : List OpenDocument) → AreDistinct documents
    → AreDistinct (without_document uri documents)
distinct_without uri [] distinct = tt
distinct_without uri (other ∷ others) distinct =
    let M = λ (t : Bool). AreDistinct (cond t others (other ∷ without_document uri others)) in
    elim (has_uri uri other) as M [
      | true ↦ distinct.1
      | false ↦ (closed_without other.uri uri others distinct.0, distinct_without uri others distinct.1)
    ]

pub open_forgotten : (uri : List ℕ) (documents : List OpenDocument)
    → is_open uri (map forgotten documents) ≡ is_open uri documents
open_forgotten uri [] = refl
open_forgotten uri (other ∷ others) =
    let M = λ (t : Bool). is_some (cond t (Some (forgotten other)) (find (has_uri uri) (map forgotten others)))
    ≡ is_some (cond t (Some other) (find (has_uri uri) others)) in
    elim (has_uri uri other) as M [ true ↦ refl | false ↦ open_forgotten uri others ]

pub distinct_forgotten : (documents : List OpenDocument) → AreDistinct documents → AreDistinct (map forgotten documents)
distinct_forgotten [] distinct = tt
distinct_forgotten (other ∷ others) distinct =
    (open_forgotten other.uri others ∙ distinct.0, distinct_forgotten others distinct.1)
