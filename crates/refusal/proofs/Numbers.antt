-- Each rule has a number of its own, and none has 0.
use Rattle.std.proofs.Common.{◌≡◌, ℕ, cond, nat_eq, refl, sym, ap, ◌∙◌, arith}
use Rattle.refusal.specs.declared.Rule.{Rule}
use Rattle.refusal.specs.declared.Rule.TheVariants as rule
use Rattle.refusal.specs.Numbers.{rule_number}

-- no rule has the number 0, which says that nothing is refused
pub number_some : (r : Rule) → rule_number r ≡ 0 → ⊥
number_some rule.Asked e = absurd (omega (arith, e))
number_some rule.Sizes e = absurd (omega (arith, e))
number_some rule.Offset e = absurd (omega (arith, e))
number_some rule.LargeCode e = absurd (omega (arith, e))
number_some rule.FallingCode e = absurd (omega (arith, e))
number_some rule.ListRoom e = absurd (omega (arith, e))
number_some rule.WorkRoom e = absurd (omega (arith, e))
number_some rule.TrailRoom e = absurd (omega (arith, e))
number_some rule.Form e = absurd (omega (arith, e))
number_some rule.LargeNumber e = absurd (omega (arith, e))
number_some rule.TablesRoom e = absurd (omega (arith, e))
number_some rule.TextRoom e = absurd (omega (arith, e))
number_some rule.ContextNumber e = absurd (omega (arith, e))
number_some rule.ListedEntry e = absurd (omega (arith, e))

-- the rule that has a number
abbrev rule_by : ℕ → Rule
rule_by n =
    cond (nat_eq n 1) rule.Asked
    (cond (nat_eq n 2) rule.Sizes
    (cond (nat_eq n 3) rule.Offset
    (cond (nat_eq n 4) rule.LargeCode
    (cond (nat_eq n 5) rule.FallingCode
    (cond (nat_eq n 6) rule.ListRoom
    (cond (nat_eq n 7) rule.WorkRoom
    (cond (nat_eq n 8) rule.TrailRoom
    (cond (nat_eq n 9) rule.Form
    (cond (nat_eq n 10) rule.LargeNumber
    (cond (nat_eq n 11) rule.TablesRoom
    (cond (nat_eq n 12) rule.TextRoom
    (cond (nat_eq n 13) rule.ContextNumber
    rule.ListedEntry))))))))))))

back : (r : Rule) → rule_by (rule_number r) ≡ r
back rule.Asked = refl
back rule.Sizes = refl
back rule.Offset = refl
back rule.LargeCode = refl
back rule.FallingCode = refl
back rule.ListRoom = refl
back rule.WorkRoom = refl
back rule.TrailRoom = refl
back rule.Form = refl
back rule.LargeNumber = refl
back rule.TablesRoom = refl
back rule.TextRoom = refl
back rule.ContextNumber = refl
back rule.ListedEntry = refl

-- two rules with one number are one rule
pub number_tells : {r s : Rule} → rule_number r ≡ rule_number s → r ≡ s
number_tells {r} {s} e = sym (back r) ∙ ap rule_by e ∙ back s
