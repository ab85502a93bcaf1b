use Rattle.scene_trace.proofs.TextLemmas.{text-has-no-tag}
use Rattle.scene_trace.proofs.pictures.bytes.put_html.Goals as goal

pub returns-clause-no_tag : goal.returns-clause-no_tag
returns-clause-no_tag c = text-has-no-tag c.args.text.now

pub returns-in_err-put_html_byte-clause-no_tag : goal.returns-in_err-put_html_byte-clause-no_tag
returns-in_err-put_html_byte-clause-no_tag c = text-has-no-tag c.args.text.now
