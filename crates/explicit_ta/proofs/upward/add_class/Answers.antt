use Rattle.explicit_ta.proofs.Indexing.{class_pushed}
use Rattle.explicit_ta.proofs.upward.add_class.Goals as goal

pub returns : goal.returns
returns c =
    rw c.in_ok-push.ensures.items (class_pushed c.args.states c.args.first.now c.args.second.now c.args.symbol c.requires.some.0 c.args.classes.now.items c.in_ok-class.class c.requires.some.1
    c.in_ok-class.ensures.symbol c.in_ok-class.ensures.first c.in_ok-class.ensures.second)
