pub mod Propose
