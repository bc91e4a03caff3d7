-- The prices of a block as code holds them. With a scale they make the rule that the block is priced by.
use Rattle.std.specs.Prelude.{◌≡◌, Bool, cond, ℕ, zero, suc, ◌+◌, ◌*◌, ◌^◌, ◌≤◌}
use Rattle.price.specs.Level.{nearest, distortion}
use Rattle.price.specs.Rule.{Rule}
use Rattle.scaling.specs.declared.scale.Scale.{Scale}
use Rattle.weights.specs.declared.prices.Prices.{Prices}
use Rattle.weights.specs.Inner.Modest.{ModestNumbers}

-- all prices that code holds are
abbrev pub Modest : Prices → Type 0
Modest p = ModestNumbers p.zero p.zeros p.head p.heads p.one p.two p.more p.last p.empty p.coded

abbrev pub zero_price : Prices → Bool → ℕ
zero_price p after_zero = cond after_zero p.zeros p.zero

abbrev pub head_price : Prices → Bool → ℕ
head_price p after_zero = cond after_zero p.heads p.head

unfoldable pub level_price : Prices → ℕ → ℕ
level_price p zero = 0
level_price p (suc zero) = p.one
level_price p (suc (suc n)) = p.two + n * p.each

unfoldable pub rate_by : Prices → Bool → ℕ → ℕ
rate_by p z zero = zero_price p z
rate_by p z (suc a) = level_price p (suc a) + head_price p z

-- the rule of a scale and prices
unfoldable pub rule_by : Prices → Scale → Rule
unfolding nearest distortion rate_by
rule_by p g =
    record {
      top = nearest g.shift;
      dist = distortion g.shift g.error;
      rate = rate_by p;
      coded = p.coded;
      empty = p.empty;
      more = p.more;
      last = p.last;
    }

-- what refusals 7 and 8 leave
pub record Fine (p : Prices) (g : Scale) (L : ℕ) : Type 0 where
  pub near : L * g.error ≤ 2 ^ 49
  pub level : nearest g.shift L ≤ 32767
  pub price : nearest g.shift L * p.each ≤ 2 ^ 61

pub record Priced (p : Prices) (a r : ℕ) : Type 0 where
  pub is : r ≡ level_price p a
  pub small : r ≤ 2 ^ 61 + 2 ^ 49
