use Rattle.std.proofs.Common.{rules}
use Rattle.layout_file.proofs.ParsedDocuments.{document-some, document-none}
use Rattle.layout_file.proofs.reader.parse.Goals as goal

pub returns-in-Ok-clause-ok : goal.returns-in-Ok-clause-ok
returns-in-Ok-clause-ok c = document-some _ _ c.in-Ok.ensures.ok.0 c.in-Ok.ensures.ok.1

pub returns-in-Err-2-clause-none : goal.returns-in-Err-2-clause-none
returns-in-Err-2-clause-none c =
    λ _. rw (document-none c.args.bytes.now (c.in-Err.ensures.refused (search rules)), c.file_fault-in-Err-2.ensures)
