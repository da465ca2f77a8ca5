use Rattle.sd_model.proofs.Booked.{reply-newest, reply-there}
use Rattle.sd_model.proofs.book.Book.last_reply.Goals as goal

pub returns-clause-there : goal.returns-clause-there
returns-clause-there c = reply-there c.args.self.now.entries c.newest_reply.result c.newest_reply.ensures

pub returns-clause-newest : goal.returns-clause-newest
returns-clause-newest c = reply-newest c.args.self.now.entries c.newest_reply.result c.newest_reply.ensures
