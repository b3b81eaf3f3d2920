-- Among the followers the turn is found, if there is one.
use Rattle.std.proofs.Common.{rules, tests, ◌≡◌, ◌∙◌, ℕ, option_map}
use Rattle.std.proofs.lemmas.Iterator.{first_from_Range}
use Rattle.book.specs.Entries.{turn_second}
use Rattle.book.specs.Tables.{turn_table}
use Rattle.walk.specs.View.{walks_of}
use Rattle.walk.specs.steps.Onward.{numbered}
use Rattle.walk.proofs.TurnRuns.{found_among}
use Rattle.walk.proofs.turns.turn_of.Goals as goal

pub returns : goal.returns
returns c =
    let run = c.followers.ensures in
    let numbered_all : c.map.result ≡ option_map numbered c.find.result = search (rules, tests) in
    let second : ℕ → ℕ = turn_second (turn_table c.args.book.bytes.now c.args.book.counts) in
    numbered_all ∙ found_among c.args.book.bytes.now c.args.book.counts (walks_of c.args.book.bytes.now c.args.book.counts) c.args.book.good c.args.first.0 c.args.second.0 _ _ run.start run.end _ (first_from_Range _ _ _ _ (λ t. second t ≡ c.args.second.0) (λ t. second t ≡ c.args.second.0 → ⊥) c.find.ensures.ran (λ x q k. search (rules, tests)) (λ x q k. (search rules, search (rules, tests))))
