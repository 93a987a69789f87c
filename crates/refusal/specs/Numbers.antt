-- The paper's number of each rule, and what a result says in the paper's words: its value, or a number and a place.
use Rattle.std.specs.Prelude.{ℕ, Option, None, Some, Result, Ok, Err}
use Rattle.refusal.specs.declared.Refusal.{Refusal}
use Rattle.refusal.specs.declared.Rule.{Rule}
use Rattle.refusal.specs.declared.Rule.TheVariants as rule

-- the number of a rule
abbrev pub rule_number : Rule → ℕ
rule_number rule.Asked = 1
rule_number rule.Sizes = 2
rule_number rule.Offset = 3
rule_number rule.LargeCode = 4
rule_number rule.FallingCode = 5
rule_number rule.ListRoom = 6
rule_number rule.WorkRoom = 7
rule_number rule.TrailRoom = 8
rule_number rule.Form = 9
rule_number rule.LargeNumber = 10
rule_number rule.TablesRoom = 11
rule_number rule.TextRoom = 12
rule_number rule.ContextNumber = 13
rule_number rule.ListedEntry = 17

-- what a result says: `value` of what it holds, or `refused` of the number and the place of its refusal
abbrev pub said : {A X : Type 0} → (A → X) → (ℕ → ℕ → X) → Result A Refusal → X
said value refused (Ok a) = value a
said value refused (Err r) = refused (rule_number r.rule) r.place

-- the number of what a rule says: 0 where it is kept
abbrev pub rule_said : Option Rule → ℕ
rule_said None = 0
rule_said (Some broken) = rule_number broken
