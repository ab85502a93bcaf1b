use Rattle.std.proofs.Common.{◌≡◌, ◌≢◌, ◌++◌, ◌∷◌, [], All, ap, sym, subst, ◌∙◌, append-nil, append_assoc, length, ◌<◌, string_bytes, refl, arith}
use Rattle.std.proofs.lemmas.List.Elements.{All-head, All-rest}
use Rattle.json.specs.Token.{bad}
use Rattle.json.specs.Reads.{token_of}
use Rattle.json.specs.declared.token.Token.TheVariants.{Bad}
use Rattle.json.specs.Lex.{tokens}
use Rattle.serde_json.specs.View.{view}
use Rattle.serde_json.specs.Written.{outline}
use Rattle.serde_json.proofs.Texts.{tokens_from_order}
use Rattle.scene.specs.Printing.{tokens_of}
use Rattle.scene.proofs.PrintLemmas.{none-bad, readable}
use Rattle.scene.proofs.snapshot.text.put_tokens.Goals as goal

pub loop-token-init : goal.loop-token-init
loop-token-init c =
    let json = view c.args.value.now in
    let is : c.in_ok-reader.reader ≡ tokens_of json = c.in_ok-reader.ensures.ok ∙ ap tokens c.as_str.ensures.value ∙ tokens_from_order (string_bytes c.in_ok-text.text) json c.in_ok-text.ensures.order c.requires in
    record {
      tokens = ap (λ ts. c.args.out.now.tokens ++ ts) is;
      before = refl;
      good = subst (All (λ token. token ≢ bad)) (sym is) (none-bad (outline json));
    }

pub loop-token-preserved : goal.loop-token-preserved
loop-token-preserved c =
    let next : c.loop-token.reader ≡ token_of c.in-Some.token ∷ c.next.new.self = c.in-Some.ensures.value in
    record {
      tokens = ap (λ ts. ts ++ c.next.new.self) c.in_ok-token.ensures.ok ∙ append_assoc c.loop-token.out.tokens (token_of c.in-Some.token ∷ []) c.next.new.self ∙ ap (λ ts. c.loop-token.out.tokens ++ ts) (sym next) ∙ c.loop-token.invariant.tokens;
      before = c.token.ensures.room.0 ∙ c.loop-token.invariant.before;
      good = All-rest (λ token. token ≢ bad) (token_of c.in-Some.token) c.next.new.self c.loop-token.reader next c.loop-token.invariant.good;
    }

pub token-requires : goal.token-requires
token-requires c =
    c.in-Some.ensures.printable (λ (is-bad : c.in-Some.token ≡ Bad).
    All-head (λ token. token ≢ bad) (token_of c.in-Some.token) c.next.new.self (subst (All (λ token. token ≢ bad)) c.in-Some.ensures.value c.loop-token.invariant.good) (ap token_of is-bad))

pub loop-token-smaller : goal.loop-token-smaller
loop-token-smaller c = subst (λ ts. length c.next.new.self < length ts) (sym c.in-Some.ensures.value) (omega arith)

pub returns : goal.returns
returns c =
    let json = view c.args.value.now in
    record {
      adds = record {
        tokens = sym (append-nil c.loop-token.out.tokens) ∙ ap (λ ts. c.loop-token.out.tokens ++ ts) (sym c.in_default.ensures.value.0) ∙ c.loop-token.invariant.tokens;
        before = c.loop-token.invariant.before;
      };
      reads = readable (string_bytes c.in_ok-text.text) json (tokens_from_order (string_bytes c.in_ok-text.text) json c.in_ok-text.ensures.order c.requires) c.in_ok-text.ensures.reads_back;
    }
