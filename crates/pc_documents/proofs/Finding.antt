-- The document that is read at its place.
use Rattle.std.specs.Prelude.{option_map, slice_get}
use Rattle.std.proofs.Common.{◌≡◌, ℕ, ◌<◌, zero, suc, List, [], ◌∷◌, length, map, get_or, refl, ap, sym, ◌∙◌, arith}
use Rattle.std.proofs.Common.{Some}
use Rattle.pc_documents.specs.declared.documents.Document.{Document}
use Rattle.pc_documents.specs.Documents.{index_of_document, document_at, opened_of}
use Rattle.pc_documents.proofs.Keeping.{found_some, place_below}

slice_get_read : (documents : List Document) (k : ℕ) (x : Document) → k < length documents
    → slice_get documents k ≡ Some (get_or documents k x)
slice_get_read [] k x within = absurd (omega arith)
slice_get_read (other ∷ others) zero x within = refl
slice_get_read (other ∷ others) (suc k) x within = slice_get_read others k x (omega arith)

pub found_read : (uri : List ℕ) (documents : List Document) (k : ℕ) (x : Document)
    → index_of_document uri (map opened_of documents) ≡ Some k → x ≡ get_or documents k x
    → document_at uri (map opened_of documents) ≡ Some (opened_of x)
found_read uri documents k x e read =
    found_some uri documents k e
    ∙ (ap (option_map opened_of) (slice_get_read documents k x (place_below uri documents k e))
    ∙ ap (λ y. Some (opened_of y)) (sym read))
