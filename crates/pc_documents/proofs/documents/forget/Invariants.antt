use Rattle.std.proofs.Common.{◌≡◌, ◌++◌, map, take, drop}
use Rattle.pc_documents.proofs.Keeping.{silent}
use Rattle.pc_documents.proofs.documents.forget.Given as goal

abbrev pub invariant-loop-document : goal.invariant-loop-document
invariant-loop-document l = l.document-items
    ≡ map silent (take l.document-index l.fn.documents.items) ++ drop l.document-index l.fn.documents.items
