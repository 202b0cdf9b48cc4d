use Rattle.session_desk.proofs.converse.hold_session.Goals as goal

pub returns-clause-answers : goal.returns-clause-answers
returns-clause-answers g c = c.converse.ensures.answers

pub returns-clause-whole : goal.returns-clause-whole
returns-clause-whole g c = c.converse.ensures.whole

pub returns-clause-moments : goal.returns-clause-moments
returns-clause-moments g c = c.converse.ensures.moments

pub returns-clause-end : goal.returns-clause-end
returns-clause-end g c = c.converse.ensures.end

pub returns-clause-settled : goal.returns-clause-settled
returns-clause-settled g c = c.converse.ensures.settled

pub returns-clause-status : goal.returns-clause-status
returns-clause-status g c = c.converse.ensures.status

pub returns-clause-site : goal.returns-clause-site
returns-clause-site g c = c.converse.ensures.site

pub returns-clause-source : goal.returns-clause-source
returns-clause-source g c = c.converse.ensures.source

pub returns-clause-joins : goal.returns-clause-joins
returns-clause-joins g c = c.converse.ensures.joins

pub returns-clause-begins : goal.returns-clause-begins
returns-clause-begins g c = c.converse.ensures.begins

pub returns-clause-taken : goal.returns-clause-taken
returns-clause-taken g c = c.converse.ensures.taken

pub returns-clause-ended : goal.returns-clause-ended
returns-clause-ended g c = c.converse.ensures.ended

pub returns-clause-source_later : goal.returns-clause-source_later
returns-clause-source_later g c = c.converse.ensures.source_later

pub returns-clause-site_later : goal.returns-clause-site_later
returns-clause-site_later g c = c.converse.ensures.site_later

pub returns-clause-work : goal.returns-clause-work
returns-clause-work g c = c.converse.ensures.work
