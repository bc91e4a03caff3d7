-- The terms that the repair of a block works out.
use Rattle.std.specs.Prelude.{◌≡◌, ◌^◌, ◌≤◌}
use Rattle.tables.specs.Scales.{forward}
use Rattle.price.specs.declared.Costs.{Costs}
use Rattle.price.specs.Lambda.{lambda_of}
use Rattle.price.specs.Rows.{rows_of}
use Rattle.scaling.specs.Inner.Scale.{ScaleOf}
use Rattle.weights.specs.declared.prices.Prices.{Prices}
use Rattle.contexts.specs.Inner.Reading.{PricesOf}
use Rattle.coding.specs.declared.Coding.{Coding}
use Rattle.heights.specs.declared.Heights.{Heights}
use Rattle.trial.specs.declared.Terms.{Terms}

pub record PricesFor (t : Costs) (c : Coding) (p : Prices) : Type 0 where
  pub is : PricesOf 32768 (lambda_of c.settings.lambda) t (rows_of c.component c.intra_coded) p
  pub light : lambda_of c.settings.lambda ≤ 2 ^ 28

pub record TermsOf (t : Costs) (c : Coding) (h : Heights) (x : Terms) : Type 0 where
  pub prices : PricesFor t c x.weights.prices
  pub scale : ScaleOf forward c.log2 c.settings.qp x.weights.scale
  pub log2 : x.log2 ≡ c.log2
  pub qp : x.qp ≡ c.settings.qp
  pub heights : x.heights ≡ h
