use Rattle.std.proofs.Common.{◌≡◌, ◌++◌, ◌∙◌, ap, arith, drop, length, map, take}
use Rattle.std.proofs.lemmas.List.{take_at}
use Rattle.pc_documents.specs.Documents.{opened_of}
use Rattle.pc_documents.proofs.Keeping.{silent_all}
use Rattle.pc_documents.proofs.documents.forget.Goals as goal

pub returns : goal.returns
returns c =
    let documents = c.args.documents.now in
    let items = c.loop-document.document-items in
    let whole : take documents.len (items ++ drop (length items) documents.items) ≡ items =
    take_at items (drop (length items) documents.items) documents.len (omega (arith, documents.ok.0)) in
    ap (map opened_of) whole
    ∙ silent_all documents.items items c.loop-document.document-index (omega (arith, documents.ok.0))
    c.loop-document.invariant
