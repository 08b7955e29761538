-- The open documents and their edits, by the place of a document among them.
use Rattle.std.specs.List.{position_or_len}
use Rattle.std.specs.Prelude.{bytes_eq, string_bytes, option_map, position, remove, find, is_some, nat_lt, slice_get}
use Rattle.std.proofs.Common.{◌≡◌, ℕ, ◌+◌, ◌<◌, ◌≤◌, zero, suc, Bool, true, false, not, cond, List, [], ◌∷◌, ◌++◌}
use Rattle.std.proofs.Common.{length, map, set, take, drop, get_or, refl, ap, sym, ◌∙◌, arith, None, Some}
use Rattle.std.proofs.lemmas.Bool.Decides.{nat_tests}
use Rattle.std.proofs.lemmas.List.{map-append, map-set, length-map, take-map, drop_all, take_all, append-nil}
use Rattle.std.proofs.lemmas.List.Edits.{map_over_more}
use Rattle.std.proofs.lemmas.List.Folds.{find_at}
use Rattle.pc_documents.specs.declared.documents.Document.{Document}
use Rattle.pc_documents.specs.Documents.{has_uri, index_of_document, document_at, is_open, with_document, without_document}
use Rattle.pc_documents.specs.Documents.{forgotten, OpenDocument, opened_of}

-- the place of the first document with this address, or how many there are
abbrev place : List ℕ → List OpenDocument → ℕ
place uri ds = position_or_len (has_uri uri) ds

-- a document with this address
abbrev has : List ℕ → Document → Bool
has uri document = bytes_eq (string_bytes document.uri) uri

-- a place is found exactly if it is below the end
placed : (k n i : ℕ) → cond (nat_lt k n) (Some k) None ≡ Some i → (k ≡ i) × (k < n)
placed k n i e = (grind (arith, nat_tests), grind (arith, nat_tests))

not_placed : (k n : ℕ) → cond (nat_lt k n) (Some k) None ≡ None → n ≤ k
not_placed k n e = grind (arith, nat_tests)

-- the place among the documents is the place among what they say
place_along : (uri : List ℕ) (documents : List Document)
    → place uri (map opened_of documents) ≡ position_or_len (has uri) documents
place_along uri [] = refl
place_along uri (other ∷ others) =
    let M = λ (b : Bool). cond (not b) (1 + place uri (map opened_of others)) 0
    ≡ cond (not b) (1 + position_or_len (has uri) others) 0 in
    elim (has uri other) as M [ true ↦ refl | false ↦ ap (λ k. 1 + k) (place_along uri others) ]

pub place_of_map : (uri : List ℕ) (documents : List Document)
    → index_of_document uri (map opened_of documents) ≡ position (λ d. bytes_eq (string_bytes d.uri) uri) documents
place_of_map uri documents =
    ap (λ k. cond (nat_lt k (length (map opened_of documents))) (Some k) None) (place_along uri documents)
    ∙ ap (λ n. cond (nat_lt (position_or_len (has uri) documents) n)
    (Some (position_or_len (has uri) documents)) None) (length-map documents opened_of)

-- ---- by place

with_at : (document : OpenDocument) (ds : List OpenDocument) → place document.uri ds < length ds
    → with_document document ds ≡ set ds (place document.uri ds) document
with_at document [] within = absurd (omega arith)
with_at document (other ∷ others) within =
    let k = place document.uri others in
    let e : 1 + k ≡ suc k = omega arith in
    let M = λ (b : Bool). (cond (not b) (1 + k) 0 < suc (length others))
    → cond b (document ∷ others) (other ∷ with_document document others)
    ≡ set (other ∷ others) (cond (not b) (1 + k) 0) document in
    elim (has_uri document.uri other) as M [
      | true ↦ λ _. refl
      | false ↦ λ below. rw e (ap (λ l. other ∷ l) (with_at document others (omega arith)))
    ] within

with_new : (document : OpenDocument) (ds : List OpenDocument) → length ds ≤ place document.uri ds
    → with_document document ds ≡ ds ++ document ∷ []
with_new document [] past = refl
with_new document (other ∷ others) past =
    let k = place document.uri others in
    let M = λ (b : Bool). (suc (length others) ≤ cond (not b) (1 + k) 0)
    → cond b (document ∷ others) (other ∷ with_document document others) ≡ other ∷ (others ++ document ∷ []) in
    elim (has_uri document.uri other) as M [
      | true ↦ λ beyond. absurd (omega arith)
      | false ↦ λ beyond. ap (λ l. other ∷ l) (with_new document others (omega arith))
    ] past

without_at : (uri : List ℕ) (ds : List OpenDocument) → place uri ds < length ds
    → without_document uri ds ≡ remove ds (place uri ds)
without_at uri [] within = absurd (omega arith)
without_at uri (other ∷ others) within =
    let k = place uri others in
    let e : 1 + k ≡ suc k = omega arith in
    let M = λ (b : Bool). (cond (not b) (1 + k) 0 < suc (length others))
    → cond b others (other ∷ without_document uri others) ≡ remove (other ∷ others) (cond (not b) (1 + k) 0) in
    elim (has_uri uri other) as M [
      | true ↦ λ _. refl
      | false ↦ λ below. rw e (ap (λ l. other ∷ l) (without_at uri others (omega arith)))
    ] within

open_at : (uri : List ℕ) (ds : List OpenDocument) → place uri ds < length ds → is_open uri ds ≡ true
open_at uri [] within = absurd (omega arith)
open_at uri (other ∷ others) within =
    let k = place uri others in
    let M = λ (b : Bool). (cond (not b) (1 + k) 0 < suc (length others))
    → is_some (cond b (Some other) (find (has_uri uri) others)) ≡ true in
    elim (has_uri uri other) as M
    [ true ↦ λ _. refl | false ↦ λ below. open_at uri others (omega arith) ] within

closed_at : (uri : List ℕ) (ds : List OpenDocument) → length ds ≤ place uri ds → document_at uri ds ≡ None
closed_at uri [] past = refl
closed_at uri (other ∷ others) past =
    let k = place uri others in
    let M = λ (b : Bool). (suc (length others) ≤ cond (not b) (1 + k) 0)
    → cond b (Some other) (find (has_uri uri) others) ≡ None in
    elim (has_uri uri other) as M
    [ true ↦ λ beyond. absurd (omega arith) | false ↦ λ beyond. closed_at uri others (omega arith) ] past

slice_get-map : (documents : List Document) (k : ℕ)
    → slice_get (map opened_of documents) k ≡ option_map opened_of (slice_get documents k)
slice_get-map [] k = refl
slice_get-map (other ∷ others) zero = refl
slice_get-map (other ∷ others) (suc k) = slice_get-map others k

-- ---- by what `index_of_document` gives

pub open_some : (uri : List ℕ) (ds : List OpenDocument) (k : ℕ) → index_of_document uri ds ≡ Some k → is_open uri ds ≡ true
open_some uri ds k e = open_at uri ds (placed _ _ k e).1

pub open_none : (uri : List ℕ) (ds : List OpenDocument) → index_of_document uri ds ≡ None → is_open uri ds ≡ false
open_none uri ds e = ap is_some (closed_at uri ds (not_placed _ _ e))

pub without_some : (uri : List ℕ) (ds : List OpenDocument) (k : ℕ) → index_of_document uri ds ≡ Some k
    → without_document uri ds ≡ remove ds k
without_some uri ds k e =
    let p = placed _ _ k e in without_at uri ds p.1 ∙ ap (remove ds) p.0

pub found_none : (uri : List ℕ) (documents : List Document) → index_of_document uri (map opened_of documents) ≡ None
    → document_at uri (map opened_of documents) ≡ None
found_none uri documents e = closed_at uri (map opened_of documents) (not_placed _ _ e)

pub found_some : (uri : List ℕ) (documents : List Document) (k : ℕ)
    → index_of_document uri (map opened_of documents) ≡ Some k
    → document_at uri (map opened_of documents) ≡ option_map opened_of (slice_get documents k)
found_some uri documents k e =
    find_at (has_uri uri) (map opened_of documents)
    ∙ (ap (slice_get (map opened_of documents)) (placed _ _ k e).0 ∙ slice_get-map documents k)

pub place_below : (uri : List ℕ) (documents : List Document) (k : ℕ)
    → index_of_document uri (map opened_of documents) ≡ Some k → k < length documents
place_below uri documents k e =
    let p = placed _ _ k e in
    let same = p.0 in
    let within = p.1 in
    let long = length-map documents opened_of in
    omega arith

pub put_some : (document : Document) (documents : List Document) (k : ℕ)
    → index_of_document (string_bytes document.uri) (map opened_of documents) ≡ Some k
    → with_document (opened_of document) (map opened_of documents) ≡ map opened_of (set documents k document)
put_some document documents k e =
    let p = placed _ _ k e in
    with_at (opened_of document) (map opened_of documents) p.1
    ∙ (ap (λ i. set (map opened_of documents) i (opened_of document)) p.0
    ∙ sym (map-set opened_of documents k document))

pub put_none : (document : Document) (documents : List Document)
    → index_of_document (string_bytes document.uri) (map opened_of documents) ≡ None
    → with_document (opened_of document) (map opened_of documents) ≡ map opened_of (documents ++ document ∷ [])
put_none document documents e =
    with_new (opened_of document) (map opened_of documents) (not_placed _ _ e)
    ∙ sym (map-append opened_of documents (document ∷ []))

-- ---- edits of all documents, along what they say

drop-map : (k : ℕ) (documents : List Document) → drop k (map opened_of documents) ≡ map opened_of (drop k documents)
drop-map zero documents = refl
drop-map (suc k) [] = refl
drop-map (suc k) (other ∷ others) = drop-map k others

pub removed : (documents : List Document) (k : ℕ)
    → remove (map opened_of documents) k ≡ map opened_of (remove documents k)
removed documents k =
    ap (λ l. l ++ drop (suc k) (map opened_of documents)) (take-map opened_of k documents)
    ∙ (ap (λ l. map opened_of (take k documents) ++ l) (drop-map (suc k) documents)
    ∙ sym (map-append opened_of (take k documents) (drop (suc k) documents)))

pub removed_past : (documents : List Document) (k : ℕ) → length documents ≤ k
    → remove (map opened_of documents) k ≡ map opened_of documents
removed_past documents k past =
    removed documents k
    ∙ ap (map opened_of) (ap (λ l. l ++ drop (suc k) documents) (take_all k documents past)
    ∙ (ap (λ l. documents ++ l) (drop_all (suc k) documents (omega arith)) ∙ append-nil documents))

-- the document, of which the text is not known
abbrev pub silent : Document → Document
silent document = record document { text = None }

silent_is : (documents : List Document) → map opened_of (map silent documents) ≡ map forgotten (map opened_of documents)
silent_is [] = refl
silent_is (other ∷ others) = ap (λ l. forgotten (opened_of other) ∷ l) (silent_is others)

pub silent_more : (xs ys : List Document) (i : ℕ) (x : Document) → i < length xs
    → ys ≡ map silent (take i xs) ++ drop i xs → x ≡ get_or ys i x
    → set ys i (silent x) ≡ map silent (take (i + 1) xs) ++ drop (i + 1) xs
silent_more xs ys i x within so read = map_over_more silent xs ys i x within so read

pub silent_all : (xs ys : List Document) (i : ℕ) → length xs ≤ i → ys ≡ map silent (take i xs) ++ drop i xs
    → map opened_of ys ≡ map forgotten (map opened_of xs)
silent_all xs ys i past so =
    ap (map opened_of) (so ∙ (ap (λ l. map silent l ++ drop i xs) (take_all i xs past)
    ∙ (ap (λ l. map silent xs ++ l) (drop_all i xs past) ∙ append-nil (map silent xs))))
    ∙ silent_is xs
