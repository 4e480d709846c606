use Rattle.cert_shares.proofs.Ends.{gone_back}
use Rattle.cert_shares.proofs.shares.Shares.go_back.Goals as goal

pub returns : goal.returns
returns c =
    let i = c.self.inside in
    gone_back i.texts.keys c.truncate.new.self.keys i.used i.unfolded c.args.then.texts c.args.then.used c.args.then.unfolds_to c.args.self.now c.self.view_is c.truncate.ensures.keys
