-- The skip, then 6 to 9 in order, each by what the functions say of the block.
use mathlib.Core.Path.{sym, subst}
use Rattle.price.specs.Costs.{InRange}
use Rattle.price.proofs.Rates.{costs_in_range}
use Rattle.quantise.proofs.Found.{walked_is, skippable, skipped, sample_said, level_said, price_said, distortion_said}
use Rattle.quantise.proofs.Found.{within, codable, written}
use Rattle.quantise.proofs.code_block.Goals as goal

pub empty_price-empty-requires : goal.empty_price-empty-requires
empty_price-empty-requires c = costs_in_range c.requires.costs

pub skip_block-requires : goal.skip_block-requires
skip_block-requires c =
    skippable c.requires c.of-scale.ensures c.skip_threshold-threshold.ensures c.in-Some.ensures _
    c.empty_price-empty.ensures.small

pub returns-in-Some : goal.returns-in-Some
returns-in-Some c =
    let a =
    skipped c.requires c.of-scale.ensures c.skip_threshold-threshold.ensures c.in-Some.ensures
    c.lambda_whole-lambda.ensures c.of-at.result c.of-at.ensures c.empty_price-empty.ensures c.skip_block.ensures.answer
    c.skip_block.ensures.buffer in
    record { answer = a.0; buffer = a.1 }

pub returns-then-top-eq-LOWEST : goal.returns-then-top-eq-LOWEST
returns-then-top-eq-LOWEST c =
    let walked =
    walked_is c.requires c.of-scale.ensures c.skip_threshold-threshold.ensures c.in_default.ensures in
    let a = sample_said c.requires c.of-scale.ensures walked c.largest-top.ensures c.if-top-eq-LOWEST.true in
    record { answer = a.0; buffer = a.1 }

pub returns-then-m-gt-MOST_LEVEL : goal.returns-then-m-gt-MOST_LEVEL
returns-then-m-gt-MOST_LEVEL c =
    let walked =
    walked_is c.requires c.of-scale.ensures c.skip_threshold-threshold.ensures c.in_default.ensures in
    let a = level_said c.requires c.of-scale.ensures walked c.largest-top.ensures c.if-top-eq-LOWEST.false
    c.rounded-m.ensures c.if-m-gt-MOST_LEVEL.true in
    record { answer = a.0; buffer = a.1 }

pub returns-then-lambda-m-gt-MOST_WEIGHT : goal.returns-then-lambda-m-gt-MOST_WEIGHT
returns-then-lambda-m-gt-MOST_WEIGHT c =
    let walked =
    walked_is c.requires c.of-scale.ensures c.skip_threshold-threshold.ensures c.in_default.ensures in
    let a = price_said c.requires c.of-scale.ensures walked c.largest-top.ensures c.if-top-eq-LOWEST.false
    c.rounded-m.ensures c.if-m-gt-MOST_LEVEL.false c.lambda_whole-lambda.ensures c.if-lambda-m-gt-MOST_WEIGHT.true in
    record { answer = a.0; buffer = a.1 }

pub uncoded-d-requires : goal.uncoded-d-requires
uncoded-d-requires c =
    let walked =
    walked_is c.requires c.of-scale.ensures c.skip_threshold-threshold.ensures c.in_default.ensures in
    within c.requires c.of-scale.ensures walked c.largest-top.ensures c.if-top-eq-LOWEST.false

pub returns-then-d-gt-MOST_DISTORTION : goal.returns-then-d-gt-MOST_DISTORTION
returns-then-d-gt-MOST_DISTORTION c =
    let walked =
    walked_is c.requires c.of-scale.ensures c.skip_threshold-threshold.ensures c.in_default.ensures in
    let a = distortion_said c.requires c.of-scale.ensures walked c.largest-top.ensures c.if-top-eq-LOWEST.false
    c.rounded-m.ensures c.if-m-gt-MOST_LEVEL.false c.lambda_whole-lambda.ensures
    c.if-lambda-m-gt-MOST_WEIGHT.false c.uncoded-d.ensures c.if-d-gt-MOST_DISTORTION.true in
    record { answer = a.0; buffer = a.1 }

pub prices-prices-requires : goal.prices-prices-requires
prices-prices-requires c = subst InRange (sym c.costs_of.ensures) (costs_in_range c.requires.costs)

pub code_levels-requires : goal.code_levels-requires
code_levels-requires c =
    let walked =
    walked_is c.requires c.of-scale.ensures c.skip_threshold-threshold.ensures c.in_default.ensures in
    codable c.requires c.of-scale.ensures walked c.largest-top.ensures c.if-top-eq-LOWEST.false
    c.rounded-m.ensures c.if-m-gt-MOST_LEVEL.false c.lambda_whole-lambda.ensures
    c.if-lambda-m-gt-MOST_WEIGHT.false c.uncoded-d.ensures c.if-d-gt-MOST_DISTORTION.false
    c.of-at.result c.of-at.ensures c.costs_of.ensures c.prices-prices.ensures

pub returns : goal.returns
returns c =
    let walked =
    walked_is c.requires c.of-scale.ensures c.skip_threshold-threshold.ensures c.in_default.ensures in
    let a = written c.requires c.of-scale.ensures walked c.largest-top.ensures c.if-top-eq-LOWEST.false
    c.rounded-m.ensures c.if-m-gt-MOST_LEVEL.false c.lambda_whole-lambda.ensures
    c.if-lambda-m-gt-MOST_WEIGHT.false c.uncoded-d.ensures c.if-d-gt-MOST_DISTORTION.false
    c.of-at.result c.of-at.ensures c.costs_of.ensures c.prices-prices.ensures c.code_levels.ensures in
    record { answer = a.0; buffer = a.1 }
