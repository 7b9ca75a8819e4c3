pub mod OneByteLaws
