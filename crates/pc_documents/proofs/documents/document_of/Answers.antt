use Rattle.std.proofs.Common.{◌∙◌, sym}
use Rattle.pc_documents.proofs.Finding.{found_read}
use Rattle.pc_documents.proofs.documents.document_of.Goals as goal

pub returns : goal.returns
returns c =
    sym (found_read c.args.uri.now c.args.documents.now c.in_ok-place.place c.in_ok-document.document.now
    (sym c.index_of_document.ensures ∙ c.in_ok-place.was) c.in_ok-document.ensures.lookup.1)
