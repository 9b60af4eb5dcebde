use Rattle.std.proofs.Common.{◌∙◌, ◌++◌, ◌∷◌, [], List, take, ap, sym, append_assoc}
use Rattle.lpm_rules.specs.declared.Change.{Change}
use Rattle.storm.specs.Writer.{changes_by}
use Rattle.storm.proofs.Versions.{changes_next, append_nil}
use Rattle.storm.proofs.results.push_accepted.Goals as goal
use Rattle.storm.proofs.results.push_accepted.Goals.{in-Some+in_ok-push, in_default}

pub loop-index-preserved : goal.loop-index-preserved
loop-index-preserved g c =
    let i = c.loop-index.index in
    let cs = c.args.orders.now in
    let os = c.args.outcomes.now in
    let before : List (Change g.row.FIRST g.row.SECOND) = c.args.changes.now.items in
    let so_far : List (Change g.row.FIRST g.row.SECOND) = changes_by (take i cs) (take i os) in
    let next = changes_next g.row.FIRST g.row.SECOND cs os i c.index-orders-index.result c.index-outcomes-index.result c.loop-index-test.true
    c.requires c.index-orders-index.is c.index-outcomes-index.is in
    let both : List (Change g.row.FIRST g.row.SECOND) → List (Change g.row.FIRST g.row.SECOND) = λ xs. before ++ xs in
    elim c.match-change_of.branch [
      | in-Some+in_ok-push w ↦ ap (λ v. v.items) w.changes-is ∙ w.in_ok-push.ensures.items
          ∙ ap (λ (xs : List (Change g.row.FIRST g.row.SECOND)). xs ++ w.in-Some.change ∷ []) c.loop-index.invariant
          ∙ append_assoc before so_far (w.in-Some.change ∷ [])
          ∙ ap (λ (xs : List (Change g.row.FIRST g.row.SECOND)). before ++ (so_far ++ xs)) (sym w.in-Some.ensures) ∙ ap both (sym next)
      | in_default w ↦ ap (λ v. v.items) w.changes-is ∙ c.loop-index.invariant ∙ ap both (sym (append_nil so_far))
          ∙ ap (λ (xs : List (Change g.row.FIRST g.row.SECOND)). before ++ (so_far ++ xs)) (sym w.in_default.ensures) ∙ ap both (sym next)
    ]
