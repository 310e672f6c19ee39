use mathlib.Core.Path.{◌≡◌}
use mathlib.Core.Bool.{true, false}
use Rattle.line_tool.specs.Tokens.{is_passed_over, token_at}
use Rattle.line_tool.proofs.Said.{said-open, said-blank, said-comment, said-none, said-part}
use Rattle.line_tool.proofs.lines.Line.text.Goals as goal
use Rattle.line_tool.proofs.lines.Line.text.Goals.{then-not-passed_over-via-then-not-passed_over, then-not-passed_over-via-else-not-passed_over+then-is_empty}

pub returns-then-not-passed_over : goal.returns-then-not-passed_over
returns-then-not-passed_over c =
    let bytes = c.args.self.now.bytes.items in
    let first : c.token_at-first.result ≡ token_at bytes 0 = cc in
    elim c.then-not-passed_over.branch [
      | then-not-passed_over-via-then-not-passed_over w ↦ let says : is_passed_over bytes ≡ false = cc in said-open _ _ _ first c.if-self.true says
      | then-not-passed_over-via-else-not-passed_over+then-is_empty w ↦
          let passed : is_passed_over bytes ≡ true = cc in
          said-blank _ _ _ first c.if-self.true passed (cc)
    ]

pub returns-then-self : goal.returns-then-self
returns-then-self c =
    let bytes = c.args.self.now.bytes.items in
    let first : c.token_at-first.result ≡ token_at bytes 0 = cc in
    let passed : is_passed_over bytes ≡ true = cc in
    said-comment _ _ _ first c.if-self.true passed (cc)

pub returns-then-passed_over : goal.returns-then-passed_over
returns-then-passed_over c = let passed : is_passed_over c.args.self.now.bytes.items ≡ true = cc in said-none _ _ c.if-self.false passed

pub returns : goal.returns
returns c =
    let bytes = c.args.self.now.bytes.items in
    let says : is_passed_over bytes ≡ false = cc in
    let whole : c.deref-2.result.now ≡ bytes = cc in
    rw whole (said-part _ _ c.if-self.false says)
