use Rattle.std.proofs.Common.{sym, subst}
use Rattle.timbuk_text.specs.Taking.{Takes, Passes, limit_of}
use Rattle.timbuk_text.specs.Store.{Store, store_of}
use Rattle.timbuk_text.specs.declared.table.Action.{Action}
use Rattle.timbuk_text.proofs.Taken.{plain_taken}
use Rattle.timbuk_text.proofs.tables.Tables.take.Goals as goal

pub returns-in-Plain-clause-ok : goal.returns-in-Plain-clause-ok
returns-in-Plain-clause-ok c =
    let old : Store = store_of c.args.self.now in
    subst (λ (d : Action). Takes d c.args.word.now old old) (sym c.in-Plain.is) (plain_taken old c.args.word.now c.requires.few)

pub returns-in-Title-clause-stop : goal.returns-in-Title-clause-stop
returns-in-Title-clause-stop c which e = subst (λ (d : Action). Passes d c.args.word.now (store_of c.args.self.now) (limit_of which)) (sym c.in-Title.is) (c.take_title.ensures.stop which e)

pub returns-in-OpName-clause-stop : goal.returns-in-OpName-clause-stop
returns-in-OpName-clause-stop c which e = subst (λ (d : Action). Passes d c.args.word.now (store_of c.args.self.now) (limit_of which)) (sym c.in-OpName.is) (c.take_op_name.ensures.stop which e)

pub returns-in-OpRank-clause-stop : goal.returns-in-OpRank-clause-stop
returns-in-OpRank-clause-stop c which e = subst (λ (d : Action). Passes d c.args.word.now (store_of c.args.self.now) (limit_of which)) (sym c.in-OpRank.is) (c.take_op_rank.ensures.stop which e)

pub returns-in-State-clause-stop : goal.returns-in-State-clause-stop
returns-in-State-clause-stop c which e = subst (λ (d : Action). Passes d c.args.word.now (store_of c.args.self.now) (limit_of which)) (sym c.in-State.is) (c.take_state.ensures.stop which e)

pub returns-in-Final-clause-stop : goal.returns-in-Final-clause-stop
returns-in-Final-clause-stop c which e = subst (λ (d : Action). Passes d c.args.word.now (store_of c.args.self.now) (limit_of which)) (sym c.in-Final.is) (c.take_final.ensures.stop which e)

pub returns-in-Head-clause-stop : goal.returns-in-Head-clause-stop
returns-in-Head-clause-stop c which e = subst (λ (d : Action). Passes d c.args.word.now (store_of c.args.self.now) (limit_of which)) (sym c.in-Head.is) (c.take_head.ensures.stop which e)

pub returns-in-Kid-clause-stop : goal.returns-in-Kid-clause-stop
returns-in-Kid-clause-stop c which e = subst (λ (d : Action). Passes d c.args.word.now (store_of c.args.self.now) (limit_of which)) (sym c.in-Kid.is) (c.take_kid.ensures.stop which e)

pub returns-in-Arrow-clause-stop : goal.returns-in-Arrow-clause-stop
returns-in-Arrow-clause-stop c which e = subst (λ (d : Action). Passes d c.args.word.now (store_of c.args.self.now) (limit_of which)) (sym c.in-Arrow.is) (c.take_arrow.ensures.stop which e)

pub returns-in-Parent-clause-stop : goal.returns-in-Parent-clause-stop
returns-in-Parent-clause-stop c which e = subst (λ (d : Action). Passes d c.args.word.now (store_of c.args.self.now) (limit_of which)) (sym c.in-Parent.is) (c.take_parent.ensures.stop which e)
