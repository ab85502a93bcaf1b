use Rattle.std.proofs.Common.{◌≡◌, ◌≢◌, ◌++◌, All, length}
use Rattle.json.specs.Token.{bad}
use Rattle.serde_json.specs.View.{view}
use Rattle.scene.specs.Printing.{tokens_of}
use Rattle.scene.proofs.snapshot.text.put_tokens.Given as goal

-- what is written and what is still to be read are the value's tokens
abbrev pub invariant-loop-token : goal.invariant-loop-token
invariant-loop-token l =
    record {
      tokens : l.out.tokens ++ l.reader ≡ l.fn.out.tokens ++ tokens_of (view l.value);
      before : l.out.before ≡ l.fn.out.before;
      good : All (λ token. token ≢ bad) l.reader;
    }

abbrev pub decreases-loop-token : goal.decreases-loop-token
decreases-loop-token l = length l.reader
