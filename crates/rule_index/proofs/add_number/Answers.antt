use Rattle.rule_index.proofs.Buckets.{number_added}
use Rattle.rule_index.proofs.add_number.Goals as goal

pub returns-in_ok-push-in-Fun-clause-listed : goal.returns-in_ok-push-in-Fun-clause-listed
returns-in_ok-push-in-Fun-clause-listed c =
    number_added c.args.left.now c.in-Fun.f c.in-Fun.field-1 c.args.buckets.now c.index-buckets-f.result c.push.new.self c.args.number c.in-Fun.is c.requires c.in_ok-push-in-Fun.ensures.items
