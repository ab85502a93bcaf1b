use Rattle.std.proofs.Common.{◌≡◌, ◌++◌, take}
use Rattle.scene_trace.specs.Texts.{html_text}
use Rattle.scene_trace.proofs.pictures.bytes.put_html.Given as goal

-- the text so far stands behind what was there
abbrev pub invariant-loop-byte : goal.invariant-loop-byte
invariant-loop-byte l = l.out.items ≡ l.initial.out.items ++ html_text (take l.byte-index l.byte-items)
