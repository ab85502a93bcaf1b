use Rattle.std.proofs.lemmas.Str.{is_utf8-from_IsUtf8}
use Rattle.scene_document.proofs.TextLemmas.{unread}
use Rattle.scene_document.proofs.text.read_json.Goals as goal

pub returns-in-Ok : goal.returns-in-Ok
returns-in-Ok c = let reading = c.in-Ok.ensures.ok in rw (is_utf8-from_IsUtf8 c.args.bytes.now reading.0) reading.1

pub returns-in_default : goal.returns-in_default
returns-in_default c = λ _. unread c.args.bytes.now (c.in-Err.ensures.err (λ memory. c.in_default.not-Memory (c.classify.ensures.memory.1 memory)))
